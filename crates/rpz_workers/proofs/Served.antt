-- A connection that is being served.
use Rattle.std.proofs.Common.{◌≡◌, ◌+◌, ℕ, Bool, List, ◌∷◌, length, arith, subst, sym}
use Rattle.policy_publish.specs.Stores.{Store}
use Rattle.edge_io.specs.Chain.{Chain, Stage}
use Rattle.edge_io.specs.Frame.{TakesFrame}
use Rattle.server_io.specs.declared.peer.Peer.{Peer}
use Rattle.server_io.specs.declared.replies.StreamEnd.{StreamEnd}
use Rattle.rpz_workers.specs.Connections.{AnswersFrame, ConnectionState, EndsAfter, EndsBy, Exchange, FaultCounts, ServesConnection, WritesReply}

-- so many messages were answered
pub record Served {L : Type 0} (store : Store) (gave : List ℕ → List ℕ → ℕ → Type 0) (passes_on : Bool) (client : Peer) (count : ℕ) (before now : ConnectionState L) : Type 0 where
  pub exchanges : List (Stage (ConnectionState L) Exchange)
  pub chain : Chain (AnswersFrame store gave passes_on client) before exchanges now
  pub count_is : length exchanges ≡ count

-- one message more
pub served_more : {L : Type 0} (store : Store) (gave : List ℕ → List ℕ → ℕ → Type 0) (passes_on : Bool) (client : Peer) (count : ℕ) (before now after : ConnectionState L) (message : List ℕ)
    → Served store gave passes_on client count before now → TakesFrame message now.left after.left
    → WritesReply store gave passes_on client message now.worker after.worker now.moments after.moments now.passed after.passed now.held after.held
    → Served store gave passes_on client (count + 1) before after
served_more store gave passes_on client count before now after message was taken writes =
    record {
      exchanges = record { turn = record { message = message; now = writes.now; what = writes.what }; before = now } ∷ was.exchanges;
      chain = (record { taken = taken; settles = writes.settles; written = writes.written }, was.chain);
      count_is = let e : length was.exchanges ≡ count = was.count_is in omega arith;
    }

-- the end of a connection
pub ended : {L : Type 0} (store : Store) (gave : List ℕ → List ℕ → ℕ → Type 0) (passes_on : Bool) (client : Peer) (faults : FaultCounts) (count : ℕ) (before now after : ConnectionState L) (why : StreamEnd)
    → Served store gave passes_on client count before now → EndsAfter why count → EndsBy store gave passes_on client faults why now after
    → ServesConnection store gave passes_on client faults before why after
ended store gave passes_on client faults count before now after why was at ends =
    record { exchanges = was.exchanges; last = now; chain = was.chain; count = subst (EndsAfter why) (sym was.count_is) at; ends = ends }
