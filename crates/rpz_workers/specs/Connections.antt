-- How the messages of one connection are answered (RFC 1035, section 4.2.2; RFC 7766).
use Rattle.std.specs.Prelude.{◌≡◌, ◌<◌, ◌⊎◌, ℕ, Bool, List, [], length, Option, Some, None}
use Rattle.policy_publish.specs.Stores.{Store}
use Rattle.ip_prefix.specs.declared.Transport.TheVariants.{Tcp}
use Rattle.edge_io.specs.Chain.{Chain, Stage}
use Rattle.edge_io.specs.Edge.{Rose, WritesPrefix, appended}
use Rattle.edge_io.specs.Frame.{TakesSome, TakesFrame, TakesNone, TakesCut, frame_octets}
use Rattle.edge_io.specs.Told.{ComesNext}
use Rattle.server_io.specs.declared.peer.Peer.{Peer}
use Rattle.server_io.specs.declared.replies.StreamEnd.{StreamEnd}
use Rattle.server_io.specs.declared.replies.StreamEnd.TheVariants as stream_end
use Rattle.rpz_workers.specs.declared.item.Job.{Job}
use Rattle.rpz_workers.specs.declared.outcome.Outcome.{Outcome}
use Rattle.rpz_workers.specs.declared.connection.TheConstants.{FRAME_LIMIT}
use Rattle.rpz_workers.specs.Answering.{PlainWorker}
use Rattle.rpz_workers.specs.Passed.{PlainPassed}
use Rattle.rpz_workers.specs.Passing.{Settles}
use Rattle.rpz_workers.specs.Replying.{to_send}

-- what contracts see between two messages of a connection: the worker, the seconds that its clock is still to give, what was passed
-- on, the bytes that are left of the source and those that the sink was given, where they are known
pub record ConnectionState (L : Type 0) : Type 0 where
  pub worker : PlainWorker L
  pub moments : Option (List ℕ)
  pub passed : Option (List PlainPassed)
  pub left : Option (List ℕ)
  pub held : Option (List ℕ)

-- The state of a connection by its parts.
abbrev pub connection_state : {L : Type 0} → PlainWorker L → Option (List ℕ) →
    Option (List PlainPassed) → Option (List ℕ) → Option (List ℕ) → ConnectionState L
connection_state worker moments passed left held =
    record { worker = worker; moments = moments; passed = passed; left = left; held = held }

-- a message, the second at which it was answered or passed on, and what became of it
pub record Exchange : Type 0 where
  pub message : List ℕ
  pub now : ℕ
  pub what : Outcome

-- a message that came over TCP
abbrev pub tcp_job : Peer → List ℕ → Job
tcp_job client message = record { peer = client; transport = Tcp; message = message }

-- what is written: the frame of the reply, or nothing where there is none
abbrev pub reply_frame : Option (List ℕ) → List ℕ
reply_frame None = []
reply_frame (Some bytes) = frame_octets bytes

-- The message is answered, or passed on, at the second that the clock gives next.
pub record SettlesMessage {L : Type 0} (store : Store)
    (gave : List ℕ → List ℕ → ℕ → Type 0) (passes_on : Bool) (client : Peer)
    (message : List ℕ) (now : ℕ) (what : Outcome) (worker worker_then : PlainWorker L)
    (moments moments_then : Option (List ℕ))
    (passed passed_then : Option (List PlainPassed)) : Type 0 where
  pub second : ComesNext moments now moments_then
  pub settles : Settles store gave passes_on (tcp_job client message) now what worker
      worker_then passed passed_then

-- The message is answered, and all of its reply is written.
pub record WritesReply {L : Type 0} (store : Store)
    (gave : List ℕ → List ℕ → ℕ → Type 0) (passes_on : Bool) (client : Peer)
    (message : List ℕ) (worker worker_then : PlainWorker L)
    (moments moments_then : Option (List ℕ)) (passed passed_then : Option (List PlainPassed))
    (held held_then : Option (List ℕ)) : Type 0 where
  pub now : ℕ
  pub what : Outcome
  pub settles : SettlesMessage store gave passes_on client message now what worker worker_then
      moments moments_then passed passed_then
  pub written : held_then ≡ appended held (reply_frame (to_send message what))

-- The message is answered, and a part of its reply is written.
pub record CutsReply {L : Type 0} (store : Store)
    (gave : List ℕ → List ℕ → ℕ → Type 0) (passes_on : Bool) (client : Peer)
    (message : List ℕ) (worker worker_then : PlainWorker L)
    (moments moments_then : Option (List ℕ)) (passed passed_then : Option (List PlainPassed))
    (held held_then : Option (List ℕ)) : Type 0 where
  pub now : ℕ
  pub what : Outcome
  pub settles : SettlesMessage store gave passes_on client message now what worker worker_then
      moments moments_then passed passed_then
  pub written : WritesPrefix (reply_frame (to_send message what)) held held_then

-- A message is read, and answered or passed on, and all of its reply is written, if it has one here.
pub record AnswersFrame {L : Type 0} (store : Store)
    (gave : List ℕ → List ℕ → ℕ → Type 0) (passes_on : Bool) (client : Peer)
    (before : ConnectionState L) (exchange : Exchange) (after : ConnectionState L) : Type 0 where
  pub taken : TakesFrame exchange.message before.left after.left
  pub settles : SettlesMessage store gave passes_on client exchange.message exchange.now
      exchange.what before.worker after.worker before.moments after.moments before.passed
      after.passed
  pub written : after.held
      ≡ appended before.held (reply_frame (to_send exchange.message exchange.what))

-- A message is read and answered, and a part of its reply is written.
pub record CutsFrame {L : Type 0} (store : Store)
    (gave : List ℕ → List ℕ → ℕ → Type 0) (passes_on : Bool) (client : Peer)
    (before after : ConnectionState L) : Type 0 where
  pub message : List ℕ
  pub taken : TakesFrame message before.left after.left
  pub cuts : CutsReply store gave passes_on client message before.worker after.worker
      before.moments after.moments before.passed after.passed before.held after.held

-- nothing has changed but what is left of the source
pub record OnlyReads {L : Type 0} (before after : ConnectionState L) : Type 0 where
  pub worker : after.worker ≡ before.worker
  pub moments : after.moments ≡ before.moments
  pub passed : after.passed ≡ before.passed
  pub held : after.held ≡ before.held

-- how often the source and the sink of a connection had failed before, and have failed after it
pub record FaultCounts : Type 0 where
  pub source_before : ℕ
  pub source_after : ℕ
  pub sink_before : ℕ
  pub sink_after : ℕ

-- Counts of faults, by their parts.
abbrev pub fault_counts : ℕ → ℕ → ℕ → ℕ → FaultCounts
fault_counts source_before source_after sink_before sink_after =
    record {
      source_before = source_before;
      source_after = source_after;
      sink_before = sink_before;
      sink_after = sink_after;
    }

-- How a connection ends behind its last message that was answered whole. Behind as many as a connection may have, nothing is read.
-- Memory may run out where a message is read, and where its reply is written.
abbrev pub EndsBy : {L : Type 0} → Store → (List ℕ → List ℕ → ℕ → Type 0) → Bool →
    Peer → FaultCounts → StreamEnd → ConnectionState L → ConnectionState L → Type 0
EndsBy store gave passes_on client faults stream_end.End before after =
    OnlyReads before after × TakesNone before.left after.left
EndsBy store gave passes_on client faults stream_end.Limit before after = after ≡ before
EndsBy store gave passes_on client faults stream_end.Cut before after =
    OnlyReads before after × TakesCut before.left after.left
EndsBy store gave passes_on client faults stream_end.ReadFault before after =
    OnlyReads before after × TakesSome before.left after.left
    × Rose faults.source_before faults.source_after
EndsBy store gave passes_on client faults stream_end.WriteFault before after =
    CutsFrame store gave passes_on client before after × Rose faults.sink_before faults.sink_after
EndsBy store gave passes_on client faults stream_end.OutOfMemory before after =
    (OnlyReads before after × TakesSome before.left after.left)
    ⊎ CutsFrame store gave passes_on client before after

-- so many messages were answered by then
abbrev pub EndsAfter : StreamEnd → ℕ → Type 0
EndsAfter stream_end.Limit count = count ≡ FRAME_LIMIT
EndsAfter why count = count < FRAME_LIMIT

-- A connection is served: one message after another is answered or passed on, and then it ends.
pub record ServesConnection {L : Type 0} (store : Store)
    (gave : List ℕ → List ℕ → ℕ → Type 0) (passes_on : Bool) (client : Peer)
    (faults : FaultCounts) (before : ConnectionState L) (why : StreamEnd)
    (after : ConnectionState L) : Type 0 where
  pub exchanges : List (Stage (ConnectionState L) Exchange)
  pub last : ConnectionState L
  pub chain : Chain (AnswersFrame store gave passes_on client) before exchanges last
  pub count : EndsAfter why (length exchanges)
  pub ends : EndsBy store gave passes_on client faults why last after
