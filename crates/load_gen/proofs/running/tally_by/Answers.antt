use Rattle.std.proofs.Common.{◌≡◌, ◌<◌, ◌∙◌, ap, sym, length, map, get_or, subst, arith}
use Rattle.std.specs.Prelude.{IfOk}
use Rattle.load_gen.specs.Summed.{turn_for}
use Rattle.load_gen.specs.Tallied.{tally_of}
use Rattle.policy_snapshot.specs.Stands.{policy_in}
use Rattle.load_gen.proofs.Parts.{all_parts, whole_if}
use Rattle.load_gen.proofs.running.tally_by.Goals as goal

pub returns : goal.returns
returns g c =
    let f = turn_for (policy_in c.args.policy.now) in
    let size = c.part_len-size.result in
    let xs = c.args.queries.now in
    let parts = c.in_ok-parts.parts.items in
    let some : 0 < size = omega (arith, c.part_len-size.ensures) in
    whole_if c.joined.result c.deref.result.now (tally_of (map f xs)) c.joined.ensures.tally c.joined.ensures.done
    (rw c.deref.ensures.value (λ ok. all_parts f size xs parts
    (λ n d lt.
    let given = (c.in_ok-parts.ensures.each n d lt).1 in
    subst (λ ys. IfOk (get_or parts n d) (λ t. t ≡ tally_of (map f ys))) given.argument_is.value given.call)
    ok some (ap length (sym c.deref.ensures.value) ∙ (c.deref.ensures.len ∙ c.in_ok-parts.ensures.len))))
