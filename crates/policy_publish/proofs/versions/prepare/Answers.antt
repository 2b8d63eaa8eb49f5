use Rattle.std.specs.Arc.{arc_value}
use Rattle.policy_publish.proofs.Taking.{takes_as_seen}
use Rattle.policy_publish.proofs.versions.prepare.Goals as goal

pub returns-clause-ok : goal.returns-clause-ok
returns-clause-ok g c =
    takes_as_seen c.args.number c.args.transfer c.in_ok-next.size c.deref.result.now (arc_value c.args.latest.now.version) c.in_ok-next.next (arc_value c.in_ok-version.version) c.deref.ensures c.in_ok-version.ensures.ok c.in_ok-next.ensures.ok
