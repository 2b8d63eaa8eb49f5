use Rattle.std.specs.Arc.{arc_value}
use Rattle.policy_publish.specs.Lists.{Published}
use Rattle.policy_publish.proofs.Publications.{published_by}
use Rattle.policy_publish.proofs.publisher.Publisher.publish.Goals as goal

pub returns-clause-publishes : goal.returns-clause-publishes
returns-clause-publishes g c =
    let latest = c.self.inside.latest in
    let shown = c.in-Ok.prepared.shown in
    let fields : Published = record { list = latest.line.entries; version = arc_value latest.version; marks = c.self.inside.marks } in
    let new : Published = record { list = shown.line.entries; version = arc_value shown.version; marks = c.set.new.self } in
    published_by c.args.number c.args.transfer c.in-Ok.prepared.size fields c.args.self.now new c.self.view_is c.in-Ok.ensures.ok c.in-Ok.ensures.list c.set.ensures
