-- A worker's run over its items.
use Rattle.std.specs.Prelude.{◌≡◌, ◌≢◌, ℕ, Bool, List, [], ◌∷◌, Option}
use Rattle.policy_publish.specs.Stores.{Store}
use Rattle.edge_io.specs.Chain.{Chain, Stage}
use Rattle.rpz_workers.specs.declared.item.Item.{Item}
use Rattle.rpz_workers.specs.declared.item.Item.TheVariants as item
use Rattle.rpz_workers.specs.declared.took.Took.{Took}
use Rattle.rpz_workers.specs.declared.took.Took.TheVariants as took
use Rattle.rpz_workers.specs.Handling.{Handles, StreamViews, WorkerState}
use Rattle.rpz_workers.specs.Items.{NextItem}
use Rattle.rpz_workers.specs.Reporting.{Counts, counted, no_counts}

-- what contracts see between two items, and the items that are still to come, where they are known
pub record RunState (L N S K : Type 0) : Type 0 where
  pub coming : Option (List (Item N S K))
  pub state : WorkerState L S K

-- The state of a run by its parts.
abbrev pub run_state : {L N S K : Type 0} → Option (List (Item N S K)) → WorkerState L S K →
    RunState L N S K
run_state coming state = record { coming = coming; state = state }

-- an item that was taken, and what became of it
pub record Handled (N S K : Type 0) : Type 0 where
  pub item : Item N S K
  pub took : Took

-- The next item is taken and handled, and it isn't Stop.
pub record TakesItem {L N S K : Type 0} (store : Store)
    (gave : List ℕ → List ℕ → ℕ → Type 0) (passes_on : Bool) (views : StreamViews S K)
    (before : RunState L N S K) (handled : Handled N S K) (after : RunState L N S K) : Type 0 where
  pub next : NextItem before.coming handled.item after.coming
  pub handles : Handles store gave passes_on views before.state handled.item handled.took
      after.state
  pub goes_on : handled.took ≢ took.Stop

-- the numbers of a run; the last item stands first in the stages
abbrev pub tally : {L N S K : Type 0} → List (Stage (RunState L N S K) (Handled N S K)) → Counts
tally [] = no_counts
tally (stage ∷ stages) = counted (tally stages) stage.turn.took

-- One item after another is taken and handled, up to the Stop that ends the run, and these are its numbers.
pub record Works {L N S K : Type 0} (store : Store)
    (gave : List ℕ → List ℕ → ℕ → Type 0) (passes_on : Bool) (views : StreamViews S K)
    (before : RunState L N S K) (counts : Counts) (after : RunState L N S K) : Type 0 where
  pub stages : List (Stage (RunState L N S K) (Handled N S K))
  pub last : RunState L N S K
  pub chain : Chain (TakesItem store gave passes_on views) before stages last
  pub stops : NextItem last.coming item.Stop after.coming
  pub state : after.state ≡ last.state
  pub counts_are : counts ≡ tally stages

-- A run from here ended with these numbers.
pub record EndsRun {L N S K : Type 0} (store : Store)
    (gave : List ℕ → List ℕ → ℕ → Type 0) (passes_on : Bool) (views : StreamViews S K)
    (before : RunState L N S K) (counts : Counts) : Type 0 where
  pub after : RunState L N S K
  pub works : Works store gave passes_on views before counts after
