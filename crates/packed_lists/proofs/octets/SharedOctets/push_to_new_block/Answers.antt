use Rattle.std.proofs.Common.{◌≡◌, ◌+◌, ◌*◌, ◌++◌, [], ◌∷◌, length, ap, sym, arith, ◌∙◌, length-append}
use Rattle.std.specs.List.{flat_map}
use Rattle.packed_lists.proofs.SharedBlocks.{block_came, length_all}
use Rattle.packed_lists.proofs.octets.SharedOctets.push_to_new_block.Goals as goal

pub returns-clause-ok : goal.returns-clause-ok
returns-clause-ok c =
    let blocks = c.self.inside.blocks in
    let tail = c.self.inside.tail.items in
    let fill = c.in_ok-octets.ensures.fill in
    let e : length c.args.self.now ≡ length blocks * 4096 + length tail = ap length (sym c.self.view_is) ∙ length_all 4096 (λ v. v.items) blocks tail c.self.invariant.0 in
    let came : c.push.new.self ≡ blocks ++ c.in_ok-octets.octets ∷ [] = c.in_ok-push.ensures.ok ∙ ap (λ b. blocks ++ b ∷ []) c.in_ok-block.ensures in
    let list : flat_map (λ v. v.items) c.push.new.self ++ c.in_ok-tail.tail.items ≡ c.args.self.now ++ (fill ++ c.args.string.now) =
    ap (λ bs. flat_map (λ v. v.items) bs ++ c.in_ok-tail.tail.items) came
    ∙ block_came (λ v. v.items) blocks c.in_ok-octets.octets tail fill c.in_ok-tail.tail.items c.in_ok-octets.ensures.list
    ∙ ap (λ l. (flat_map (λ v. v.items) blocks ++ tail) ++ (fill ++ l)) c.in_ok-tail.ensures.items
    ∙ ap (λ l. l ++ (fill ++ c.args.string.now)) c.self.view_is in
    let filled : length tail + length fill ≡ 4096 = omega (arith, c.in_ok-octets.ensures.whole, ap length c.in_ok-octets.ensures.list, length-append tail fill) in
    let many : c.len-2.result ≡ length blocks + 1 = omega (arith, c.len-2.ensures.len, ap length came, length-append blocks (c.in_ok-octets.octets ∷ [])) in
    record {
      fill = fill;
      list = list;
      start = omega (arith, many, e, filled);
      stands = record {
        there = omega (arith, many, e, filled, ap length list, length-append c.args.self.now (fill ++ c.args.string.now), length-append fill c.args.string.now);
        whole = omega (arith, c.requires);
      };
    }
