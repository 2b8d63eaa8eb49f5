-- What a worker does with its items.
use Rattle.std.specs.Prelude.{◌≡◌, ◌≤◌, ℕ, Bool, List, Option, Some, None, Result, Ok, Err}
use Rattle.policy_publish.specs.Stores.{Store}
use Rattle.ip_prefix.specs.declared.Transport.{Transport}
use Rattle.ip_prefix.specs.declared.Transport.TheVariants as transport
use Rattle.edge_io.specs.Edge.{Rose}
use Rattle.edge_io.specs.Told.{ComesNext, more_if_ok}
use Rattle.server_io.specs.declared.peer.Peer.{Peer}
use Rattle.server_io.specs.Told.{Closings, Ended, PlainReply, closed_more}
use Rattle.server_io.specs.declared.replies.SendError.{SendError}
use Rattle.server_io.specs.declared.replies.SendError.TheVariants as send_error
use Rattle.policy_snapshot.specs.declared.entry.Entry.{Entry}
use Rattle.policy_publish.specs.Lists.{KeepsTold, WasTold}
use Rattle.reply_build.specs.declared.said.Said.TheVariants as said
use Rattle.rpz_workers.specs.declared.item.Item.{Item}
use Rattle.rpz_workers.specs.declared.item.Item.TheVariants as item
use Rattle.rpz_workers.specs.declared.item.Job.{Job}
use Rattle.rpz_workers.specs.declared.outcome.Outcome.{Outcome}
use Rattle.rpz_workers.specs.declared.outcome.Outcome.TheVariants as outcome
use Rattle.rpz_workers.specs.declared.took.Took.{Took}
use Rattle.rpz_workers.specs.declared.took.Took.TheVariants as took
use Rattle.rpz_workers.specs.Answering.{PlainWorker}
use Rattle.rpz_workers.specs.Connections.{ServesConnection, connection_state, fault_counts}
use Rattle.rpz_workers.specs.Passed.{PlainPassed}
use Rattle.rpz_workers.specs.Passing.{Settles}
use Rattle.rpz_workers.specs.Replying.{to_send}

-- what contracts see between two items: the worker, the seconds that its clock is still to give, what was passed on, the replies
-- that were sent and the connections that were closed, where they are known, and how often a send has failed
pub record WorkerState (L S K : Type 0) : Type 0 where
  pub worker : PlainWorker L
  pub moments : Option (List ℕ)
  pub passed : Option (List PlainPassed)
  pub sent : Option (List PlainReply)
  pub closings : Option (Closings S K)
  pub send_faults : ℕ

-- The state of a worker by its parts.
abbrev pub worker_state : {L S K : Type 0} → PlainWorker L → Option (List ℕ) →
    Option (List PlainPassed) → Option (List PlainReply) → Option (Closings S K) → ℕ →
    WorkerState L S K
worker_state worker moments passed sent closings send_faults =
    record {
      worker = worker;
      moments = moments;
      passed = passed;
      sent = sent;
      closings = closings;
      send_faults = send_faults;
    }

-- what contracts see of sources and of sinks
pub record StreamViews (S K : Type 0) : Type 0 where
  pub left : S → Option (List ℕ)
  pub source_faults : S → ℕ
  pub held : K → Option (List ℕ)
  pub sink_faults : K → ℕ

-- Views of streams by their parts.
abbrev pub stream_views : {S K : Type 0} → (S → Option (List ℕ)) → (S → ℕ) → (K → Option (List ℕ)) →
    (K → ℕ) → StreamViews S K
stream_views left source_faults held sink_faults =
    record { left = left; source_faults = source_faults; held = held; sink_faults = sink_faults }

-- what was sent after a try to send this
abbrev pub sent_after : Option (List PlainReply) → Peer → Transport → Option (List ℕ) →
    Result (Unit {0}) SendError → Option (List PlainReply)
sent_after sent peer transport None tried = sent
sent_after sent peer transport (Some bytes) tried =
    more_if_ok sent tried (record { peer = peer; transport = transport; bytes = bytes })

-- what became of a message whose reply was to be sent; without a fault it is what is given
abbrev pub took_by_send : Took → Result (Unit {0}) SendError → Took
took_by_send t (Ok done) = t
took_by_send t (Err send_error.Failed) = took.Failed
took_by_send t (Err send_error.OutOfMemory) = took.Memory

-- what became of a message, by what its query came to and by the send of its reply; where memory ran out for the answer, Memory,
-- unless sending the bare reply failed
abbrev pub took_of : Outcome → Result (Unit {0}) SendError → Took
took_of (outcome.Said said.Silent) tried = took.Silent
took_of (outcome.Said (said.Reply bytes)) tried = took_by_send took.Reply tried
took_of outcome.NoMemory tried = took_by_send took.Memory tried
took_of outcome.PassedOn tried = took.PassedOn

-- what an item comes to whose message came over this transport: over UDP what became of the message; one of a connection is
-- counted by no job, whatever became of it, unless it was passed on
abbrev pub took_over : Transport → Took → Took
took_over transport.Udp t = t
took_over transport.Tcp took.PassedOn = took.PassedOn
took_over transport.Tcp _ = took.Framed

-- How a reply went out over this transport, and what that makes of the message.
pub record Sends (peer : Peer) (transport : Transport) (message : List ℕ) (what : Outcome)
    (t : Took) (sent sent_then : Option (List PlainReply)) : Type 0 where
  pub tried : Result (Unit {0}) SendError
  pub sent_is : sent_then ≡ sent_after sent peer transport (to_send message what) tried
  pub took_is : t ≡ took_of what tried

-- A job is answered at the second that the clock gives next, and the reply is sent to its peer over its transport; or it is passed
-- on. Over either transport a send that fails raises the count of send faults.
pub record HandlesJob {L S K : Type 0} (store : Store)
    (gave : List ℕ → List ℕ → ℕ → Type 0) (passes_on : Bool) (job : Job)
    (before : WorkerState L S K) (t : Took) (after : WorkerState L S K) : Type 0 where
  pub now : ℕ
  pub what : Outcome
  pub became : Took
  pub second : ComesNext before.moments now after.moments
  pub settles : Settles store gave passes_on job now what before.worker after.worker
      before.passed after.passed
  pub sends : Sends job.peer job.transport job.message what became before.sent after.sent
  pub took_is : t ≡ took_over job.transport became
  pub closings : after.closings ≡ before.closings
  pub count : before.send_faults ≤ after.send_faults
  pub failed : became ≡ took.Failed → Rose before.send_faults after.send_faults

-- A connection is served, and closed with what it ended by.
pub record HandlesConnection {L S K : Type 0} (store : Store)
    (gave : List ℕ → List ℕ → ℕ → Type 0) (passes_on : Bool) (views : StreamViews S K)
    (source : S) (sink : K) (client : Peer) (before after : WorkerState L S K) : Type 0 where
  pub ended : Ended S K
  pub serves : ServesConnection store gave passes_on client
      (fault_counts (views.source_faults source) (views.source_faults ended.source)
      (views.sink_faults sink) (views.sink_faults ended.sink))
      (connection_state before.worker before.moments before.passed (views.left source)
      (views.held sink))
      ended.why
      (connection_state after.worker after.moments after.passed (views.left ended.source)
      (views.held ended.sink))
  pub closings : after.closings ≡ closed_more before.closings ended
  pub sent : after.sent ≡ before.sent
  pub send_faults : after.send_faults ≡ before.send_faults

-- A list of transfers is told: no query after it is answered by a version before it.
pub record HandlesTold {L S K : Type 0} (list : List Entry)
    (before after : WorkerState L S K) : Type 0 where
  pub learnt : WasTold after.worker.known list
  pub kept : KeepsTold before.worker.known after.worker.known
  pub seen : after.worker.known.seen ≡ before.worker.known.seen
  pub same : after ≡ record before { worker = record before.worker { known = after.worker.known } }

-- what a worker does with an item
abbrev pub Handles : {L N S K : Type 0} → Store → (List ℕ → List ℕ → ℕ → Type 0) → Bool →
    StreamViews S K → WorkerState L S K → Item N S K → Took → WorkerState L S K → Type 0
Handles store gave passes_on views before (item.Job job) t after =
    HandlesJob store gave passes_on job before t after
Handles store gave passes_on views before (item.Connection source sink client) t after =
    (t ≡ took.Closed)
    × HandlesConnection store gave passes_on views source sink client before after
Handles store gave passes_on views before (item.Told list) t after =
    (t ≡ took.Learnt) × HandlesTold list before after
Handles store gave passes_on views before item.Stop t after = (t ≡ took.Stop) × (after ≡ before)
