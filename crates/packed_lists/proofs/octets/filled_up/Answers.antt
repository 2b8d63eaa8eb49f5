use Rattle.std.proofs.Common.{◌≡◌, ◌-◌, ◌++◌, length, replicate, ap, arith, ◌∙◌}
use Rattle.std.proofs.lemmas.List.{take_all}
use Rattle.std.specs.Vec.{vec_len}
use Rattle.packed_lists.proofs.octets.filled_up.Goals as goal

pub returns : goal.returns
returns c =
    let e : c.extend_from_slice.new.self.items ≡ c.args.octets.now.items = c.in_ok-extend_from_slice.ensures.items ∙ ap (λ l. l ++ c.deref.result.now) c.in_ok-block.ensures.items ∙ c.deref.ensures.value in
    record {
      fill = replicate (4096 - vec_len c.extend_from_slice.new.self) 0;
      list = c.in_ok-resize.ensures.items ∙ ap (λ l. l ++ replicate (4096 - vec_len c.extend_from_slice.new.self) 0) (take_all 4096 c.extend_from_slice.new.self.items (omega (arith, c.requires, ap length e)) ∙ e);
      whole = omega (arith, c.in_ok-resize.ensures.len);
    }
