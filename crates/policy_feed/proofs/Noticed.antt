-- What a NOTIFY comes to.
use Rattle.std.proofs.Common.{◌≡◌, ℕ, List, Result, ◌∙◌, ap, inr}
use Rattle.ip_prefix.specs.declared.Transport.{Transport}
use Rattle.server_io.specs.declared.peer.Peer.{Peer}
use Rattle.server_io.specs.declared.replies.SendError.{SendError}
use Rattle.notify_poll.specs.Notifying.{as_notified, brought_forward}
use Rattle.notify_poll.specs.declared.notifying.Notified.{Notified}
use Rattle.policy_feed.specs.Feed.{Feed}
use Rattle.policy_feed.specs.Waking.{TakesNotify, answer_of, notice_by, told_by}
use Rattle.policy_feed.specs.declared.notice.Notice.{Notice}

pub noticed : (second : ℕ) (peer : Peer) (transport : Transport) (bytes : List ℕ) (before after : Feed) (n : Notified) (tried : Result (Unit {0}) SendError) (what : Notice) → n ≡ as_notified (answer_of peer bytes before.feeder).0
    → what ≡ notice_by n tried → after.told ≡ told_by n peer transport tried before.told
    → after.feeder ≡ record before.feeder { timers = brought_forward second before.feeder.timers (answer_of peer bytes before.feeder).1 } → after.faults ≡ before.faults → after.ids ≡ before.ids → TakesNotify second peer transport bytes before what after
noticed second peer transport bytes before after n tried what is what_is told feeder faults ids =
    inr (record {
      tried = tried;
      what_is = what_is ∙ ap (λ (x : Notified). notice_by x tried) is;
      told = told ∙ ap (λ (x : Notified). told_by x peer transport tried before.told) is;
      feeder = feeder;
      faults = faults;
      ids = ids;
    })
