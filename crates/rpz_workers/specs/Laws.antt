-- What a live entry of the cache comes to, and a client that may not ask.
use Rattle.std.specs.Prelude.{◌≡◌, ℕ, List, [], Option, Some}
use Rattle.edge_io.specs.Chain.{Stage}
use Rattle.dns_message.specs.declared.question.Question.{Question}
use Rattle.dns_message.specs.declared.request.Incoming.{Incoming}
use Rattle.upstream_link.specs.Vouched.{PlainLearned}
use Rattle.answer_cache.specs.Key.{key_of}
use Rattle.answer_cache.specs.Recent.{Recent, Serves, live_entry}
use Rattle.policy_snapshot.specs.Policy.{PlainPolicy}
use Rattle.query_session.specs.Session.{said_outside, turn_by}
use Rattle.reply_build.specs.declared.said.Said.{Said}
use Rattle.reply_build.specs.declared.turn.Turn.TheVariants as turn
use Rattle.rpz_workers.specs.declared.obtained.Obtained.{Obtained}
use Rattle.rpz_workers.specs.declared.obtained.Obtained.TheVariants.{Learned}
use Rattle.rpz_workers.specs.Answering.{PlainWorker}
use Rattle.rpz_workers.specs.Obtaining.{Inquiry}

-- the cache tells its entries, and this is the live one about the question
pub record HasLiveEntry (now : ℕ) (question : Question) (entry : PlainLearned)
    (cached : Option Recent) : Type 0 where
  pub cache : Recent
  pub tells : cached ≡ Some cache
  pub is_live : live_entry question now cache.entries ≡ Some entry

-- what was obtained is this entry, which the cache had, live and about the question
pub record IsHit {L : Type 0} (now : ℕ) (asked : Question) (entry : PlainLearned)
    (stage : Stage Inquiry (Obtained L)) : Type 0 where
  pub turn_is : stage.turn ≡ Learned entry
  pub is_found : HasLiveEntry now asked entry stage.before.cached
  pub serves : Serves asked now entry

-- If this stage asks a question of the same key, this entry of the cache answers it.
abbrev pub HitsFor : {L : Type 0} → PlainPolicy → Incoming → ℕ → Question → PlainLearned →
    Stage Inquiry (Obtained L) → Type 0
HitsFor policy incoming now question entry stage =
    (asked : Question) → turn_by policy incoming stage.before.facts ≡ turn.Ask asked →
    key_of asked ≡ key_of question → IsHit now asked entry stage

-- A message gets the reply that depends on its bytes only, and nothing was obtained for it. The cache, the IDs and the link are
-- as they were.
pub record IsTurnedAway {L : Type 0} (message : List ℕ) (said : Said)
    (old new : PlainWorker L) : Type 0 where
  pub said_is : said ≡ said_outside message
  pub obtained : new.obtained ≡ []
  pub cached : new.cached ≡ old.cached
  pub ids : new.ids ≡ old.ids
  pub link_faults : new.link_faults ≡ old.link_faults
