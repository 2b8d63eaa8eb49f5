use Rattle.std.proofs.Common.{◌≤◌, ap, subst, arith, length, List}
use mathlib.Core.List.{IsPrefix}
use Rattle.std.proofs.lemmas.Bool.{leb-true}
use Rattle.policy_snapshot.specs.declared.entry.Entry.{Entry}
use Rattle.policy_publish.proofs.Fronts.{prefix_shorter}
use Rattle.policy_publish.proofs.front.Line.begins.Goals as goal

pub returns-clause-begins : goal.returns-clause-begins
returns-clause-begins c said =
    let both = c.learn.new.self.log in
    let this : IsPrefix c.self.inside.seen.log both = subst (λ (l : List Entry). IsPrefix l both) (ap (λ s. s.log) c.again-both.ensures) c.learn.ensures.2 in
    let fewer : c.self.inside.count ≤ c.other.inside.count = leb-true _ _ said in
    let less : length c.self.inside.seen.log ≤ length c.other.inside.seen.log = omega (arith, c.self.invariant, c.other.invariant, fewer) in
    rw (← c.self.view_is, ← c.other.view_is) (prefix_shorter c.self.inside.seen.log c.other.inside.seen.log both this c.learn.ensures.3 less)
