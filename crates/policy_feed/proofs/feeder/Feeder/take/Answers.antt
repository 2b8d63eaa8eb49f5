use Rattle.std.proofs.Common.{[], sym}
use Rattle.std.proofs.lemmas.List.{append-nil}
use Rattle.policy_feed.specs.Feed.{feed_of}
use Rattle.policy_feed.proofs.Woken.{does_nothing}
use Rattle.policy_feed.proofs.feeder.Feeder.take.Goals as goal

pub returns-in-Due-clause-takes : goal.returns-in-Due-clause-takes
returns-in-Due-clause-takes g c =
    ([], sym (append-nil c.args.text.now.items), λ ids. does_nothing c.args.now (feed_of c.args.self.now (g.W.Wires.told c.args.wires.now) (g.W.Wires.order_faults c.args.wires.now) ids) c.args.wake c.in-Due.is)
