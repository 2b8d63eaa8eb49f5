use Rattle.std.proofs.Common.{sym, subst, ◌∙◌}
use Rattle.policy_snapshot.specs.Stands.{PlainSnapshot, StandsFor}
use Rattle.policy_publish.specs.Lists.{GoesOn, Known}
use Rattle.policy_publish.proofs.Fronts.{told_goes_on}
use Rattle.policy_publish.proofs.reader.PolicyReader.keep.Goals as goal

pub invariant_of-self : goal.invariant_of-self
invariant_of-self g c =
    let fields : Known = record { seen = c.self.inside.seen; told = c.self.inside.told } in (
      subst (λ (version : PlainSnapshot). StandsFor g.N.StoreName.store.settings version c.args.front) (sym (c.in_ok-own.ensures.ok ∙ c.in_ok-again.ensures)) c.requires.stands,
      told_goes_on fields c.args.front (subst (λ (known : Known). GoesOn known c.args.front) (sym c.self.view_is) c.requires.later),
    )
