-- What asking for a question comes to: for who asks over a link, and for who asks nobody.
use Rattle.std.specs.Prelude.{◌≡◌, ◌≤◌, ℕ, Bool, true, false, List, Option}
use Rattle.edge_io.specs.Edge.{Rose}
use Rattle.edge_io.specs.Told.{ComesNext}
use Rattle.dns_message.specs.declared.question.Question.{Question}
use Rattle.upstream_link.specs.Asking.{AsksAt}
use Rattle.upstream_link.specs.Vouched.{PlainLearned}
use Rattle.rpz_workers.specs.declared.asks.Asked.{Asked}
use Rattle.rpz_workers.specs.declared.asks.Asked.TheVariants as asked

-- the IDs that are still to come, where they are known, and how often the link has failed
pub record AskState : Type 0 where
  pub ids : Option (List ℕ)
  pub link_faults : ℕ

abbrev pub ask_state : Option (List ℕ) → ℕ → AskState
ask_state ids link_faults = record { ids = ids; link_faults = link_faults }

-- The link was asked in a message of the next ID, and gave this.
pub record LinkGives (now : ℕ) (question : Question) (entry : PlainLearned)
    (before after : AskState) : Type 0 where
  pub id : ℕ
  pub next : ComesNext before.ids id after.ids
  pub asks : AsksAt id question now entry
  pub link_faults : before.link_faults ≤ after.link_faults

-- The link was asked in a message of the next ID, and failed.
pub record LinkGivesNothing (before after : AskState) : Type 0 where
  pub id : ℕ
  pub next : ComesNext before.ids id after.ids
  pub link_faults : Rose before.link_faults after.link_faults

-- what asking came to; nothing else happens where nobody is asked
abbrev pub AskedFor : {L : Type 0} → Bool → ℕ → Question → Asked L → AskState → AskState → Type 0
AskedFor passes_on now question (asked.Learned entry) before after =
    (passes_on ≡ false) × LinkGives now question entry before after
AskedFor passes_on now question asked.Failed before after =
    (passes_on ≡ false) × LinkGivesNothing before after
AskedFor passes_on now question asked.PassedOn before after =
    (passes_on ≡ true) × (after ≡ before)
