use Rattle.std.proofs.Common.{subst}
use Rattle.std.specs.Prelude.{IfSome}
use Rattle.std.specs.Arc.{arc_value}
use mathlib.Core.List.{IsPrefix}
use Rattle.policy_snapshot.specs.Stands.{StandsFor}
use Rattle.policy_publish.specs.Lists.{GoesOn, Known}
use Rattle.policy_publish.proofs.Fronts.{goes_on_seen}
use Rattle.policy_publish.proofs.reader.PolicyReader.own_again.Goals as goal

pub returns-in_ok-try_clone-in-Some-clause-later : goal.returns-in_ok-try_clone-in-Some-clause-later
returns-in_ok-try_clone-in-Some-clause-later g c =
    let seen = c.self.inside.seen in
    let told = c.self.inside.told in
    let fields : Known = record { seen = seen; told = told } in
    let own = subst (λ o. IfSome o (λ version. StandsFor g.N.StoreName.store.settings (arc_value version) seen × IsPrefix told seen)) c.in-Some.is c.self.invariant in
    subst (λ (known : Known). GoesOn known known.seen) c.self.view_is (goes_on_seen fields own.1)
