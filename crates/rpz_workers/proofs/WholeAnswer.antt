-- The answer of one query, put together.
use Rattle.std.proofs.Common.{◌≡◌, ℕ, Bool, List, Ok, refl, ap, ◌∙◌, subst}
use Rattle.std.specs.declared.alloc.AllocError.{AllocError}
use Rattle.policy_override.specs.declared.zone_set.ZoneSet.{ZoneSet}
use Rattle.networks.specs.Allowed.{is_allowed}
use Rattle.dns_message.specs.declared.request.Incoming.{Incoming}
use Rattle.dns_message.specs.Request.{incoming_of}
use Rattle.policy_snapshot.specs.declared.entry.Entry.{Entry}
use Rattle.policy_override.specs.ZoneSet.{origins_in}
use Rattle.policy_snapshot.specs.Policy.{PlainPolicy, policy_after, zones_behind}
use Rattle.policy_snapshot.specs.Stands.{PlainSnapshot, StandsFor, policy_in}
use Rattle.policy_publish.specs.Lists.{GoesOn}
use Rattle.policy_publish.specs.Stores.{Store}
use Rattle.rpz_workers.specs.declared.answered.Answered.{Answered}
use Rattle.rpz_workers.specs.declared.answered.Answered.TheVariants as answered
use Rattle.rpz_workers.specs.declared.item.Job.{Job}
use Rattle.rpz_workers.specs.Answering.{Answers, PlainWorker, beginning, incoming_for}
use Rattle.rpz_workers.specs.Obtaining.{limit_of}
use Rattle.rpz_workers.specs.Turns.{ComesTo, inquiry}

-- a version is the policy after the list for which it stands
pub policy_is : (settings : List ZoneSet) (version : PlainSnapshot) (seen : List Entry) → StandsFor settings version seen → policy_in version ≡ policy_after settings seen
policy_is settings version seen stands =
    let zones : version.zones ≡ zones_behind (origins_in settings) seen = stands.stands.zones ∙ ap (λ (o : List (List (List ℕ))). zones_behind o seen) stands.origins_are in
    λ i. record { zones = zones i; overrides = stands.overrides_are i }

answered_by : {L : Type 0} (store : Store) (gave : List ℕ → List ℕ → ℕ → Type 0) (passes_on : Bool) (job : Job) (now : ℕ) (a : Answered) (old new : PlainWorker L)
    → GoesOn old.known new.known.seen → new.known.told ≡ old.known.told → limit_of new.cached ≡ limit_of old.cached
    → ComesTo gave passes_on now (policy_after store.settings new.known.seen) (incoming_for store job) (beginning old) a new.obtained new.cached new.ids new.link_faults
    → Answers {E = AllocError} store gave passes_on job now (Ok a) old new
answered_by store gave passes_on job now (answered.Said said) old new goes_on told limit then =
    record {
      stages = then.leads.stages;
      last = inquiry then.facts new.cached new.ids new.link_faults;
      obtains = then.leads.chain;
      says = then.says;
      obtained = then.leads.obtained_is;
      goes_on = goes_on;
      told = told;
      cached = refl;
      limit = limit;
      ids = refl;
      link_faults = refl;
    }
answered_by store gave passes_on job now (answered.Needs question) old new goes_on told limit then =
    record {
      stages = then.leads.stages;
      last = then.last;
      obtains = then.leads.chain;
      asks = then.asks;
      not_found = then.in_vain.not_found;
      asks_nobody = then.in_vain.asks_nobody;
      obtained = then.leads.obtained_is;
      goes_on = goes_on;
      told = told;
      cached = then.in_vain.cached;
      limit = limit;
      ids = then.in_vain.ids;
      link_faults = then.in_vain.link_faults;
    }

pub answered_with : {L : Type 0} (store : Store) (gave : List ℕ → List ℕ → ℕ → Type 0) (passes_on : Bool) (job : Job) (now : ℕ) (a : Answered) (old new : PlainWorker L) (version : PlainSnapshot) (may_ask : Bool) → may_ask ≡ is_allowed store.allowed job.peer.addr
    → StandsFor store.settings version new.known.seen → GoesOn old.known new.known.seen → new.known.told ≡ old.known.told → limit_of new.cached ≡ limit_of old.cached
    → ComesTo gave passes_on now (policy_in version) (incoming_of may_ask job.message job.peer.addr job.transport) (beginning old) a new.obtained new.cached new.ids new.link_faults
    → Answers {E = AllocError} store gave passes_on job now (Ok a) old new
answered_with store gave passes_on job now a old new version may_ask asks stands goes_on told limit comes =
    let incoming : Bool → Incoming = λ may_ask. incoming_of may_ask job.message job.peer.addr job.transport in
    let Q : Bool → Type 0 = λ may_ask. ComesTo gave passes_on now (policy_in version) (incoming may_ask) (beginning old) a new.obtained new.cached new.ids new.link_faults in
    let P : PlainPolicy → Type 0 = λ policy. ComesTo gave passes_on now policy (incoming_for store job) (beginning old) a new.obtained new.cached new.ids new.link_faults in
    answered_by store gave passes_on job now a old new goes_on told limit (subst P (policy_is store.settings version new.known.seen stands) (subst Q asks comes))
