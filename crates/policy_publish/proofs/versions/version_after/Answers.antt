use Rattle.policy_publish.proofs.Taking.{stands_ok, still_there, takes_ok}
use Rattle.policy_publish.proofs.versions.version_after.Goals as goal

pub size_of-size-requires : goal.size_of-size-requires
size_of-size-requires c = still_there c.args.number c.args.transfer c.args.version.now c.in_ok-next.next c.requires c.in_ok-next.ensures.exact

pub returns-clause-ok : goal.returns-clause-ok
returns-clause-ok c = takes_ok c.args.number c.args.transfer c.args.version.now c.in_ok-next.next c.size_of-size.result c.in_ok-next.ensures.exact c.size_of-size.ensures

pub returns-clause-stands : goal.returns-clause-stands
returns-clause-stands c settings entries stands =
    stands_ok c.args.number c.args.transfer c.args.version.now c.in_ok-next.next settings entries c.requires c.in_ok-next.ensures.exact (c.in_ok-next.ensures.stands entries) stands
