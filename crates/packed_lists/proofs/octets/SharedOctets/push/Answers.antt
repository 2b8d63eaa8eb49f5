use Rattle.std.proofs.Common.{◌≡◌, ◌+◌, ◌*◌, ◌++◌, [], length, ap, sym, arith, ◌∙◌, append_assoc, length-append}
use Rattle.std.specs.List.{flat_map}
use Rattle.packed_lists.proofs.SharedBlocks.{length_all}
use Rattle.packed_lists.proofs.octets.SharedOctets.push.Goals as goal

pub returns-clause-ok : goal.returns-clause-ok
returns-clause-ok c =
    let flat = flat_map (λ v. v.items) c.self.inside.blocks in
    let e : length c.args.self.now ≡ length c.self.inside.blocks * 4096 + length c.self.inside.tail.items = ap length (sym c.self.view_is) ∙ length_all 4096 (λ v. v.items) c.self.inside.blocks c.self.inside.tail.items c.self.invariant.0 in
    let list : flat ++ c.extend_from_slice.new.self.items ≡ c.args.self.now ++ c.args.string.now =
    ap (λ l. flat ++ l) c.in_ok-extend_from_slice.ensures.items ∙ sym (append_assoc flat c.self.inside.tail.items c.args.string.now) ∙ ap (λ l. l ++ c.args.string.now) c.self.view_is in
    record {
      fill = [];
      list = list;
      start = omega (arith, c.len-place.ensures.len);
      stands = record {
        there = omega (arith, c.len-place.ensures.len, ap length list, length-append c.args.self.now c.args.string.now);
        whole = omega (arith, c.len-place.ensures.len, e, c.len.ensures, c.if-len-string-gt-BLOCK.false);
      };
    }
