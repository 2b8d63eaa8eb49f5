-- What a run of a server does.
use Rattle.std.specs.Prelude.{◌≡◌, ◌+◌, ◌*◌, ◌⊎◌, ℕ, List, ◌++◌, length, Bool, true, false, map, Option}
use Rattle.policy_override.specs.declared.zone_set.ZoneSet.{ZoneSet}
use Rattle.edge_io.specs.Chain.{Stage}
use Rattle.edge_io.specs.Edge.{WritesPrefix, appended}
use Rattle.edge_io.specs.declared.endpoint.Endpoint.{Endpoint}
use Rattle.server_io.specs.Wired.{PlainWires}
use Rattle.rpz_words.specs.Zones.{zone_sets}
use Rattle.rpz_words.specs.declared.settings.Settings.{Settings}
use Rattle.rpz_workers.specs.declared.report.Report.{Report}
use Rattle.rpz_program.specs.ServedLine.{served_line}
use Rattle.rpz_program.specs.Sums.{GathersAll, no_sums, saturated}
use Rattle.rpz_program.specs.Turns.{HasEnded, ServerState, RunTurn, RunsTo, ServerStart, opens_at_once, start_count, told_at_start, with_turn_notices}
use Rattle.rpz_program.specs.declared.feeds.TheConstants.{STREAM_WORKERS}
use Rattle.rpz_program.specs.declared.plan.ServerPlan.{ServerPlan}
use Rattle.rpz_program.specs.declared.sums.Sums.{Sums}

-- the zones with what is set over their rules, and their primaries, in order
abbrev pub zones_in : Settings → List ZoneSet
zones_in settings = zone_sets settings.zones

abbrev pub primaries_in : Settings → List Endpoint
primaries_in settings = map (λ zone. zone.primary) settings.zones

-- how many workers a server has: those that ask the upstream, those for the datagrams of each endpoint, and those for connections
abbrev pub worker_count : Settings → ℕ
worker_count settings =
    settings.askers + (settings.workers * length settings.listen + STREAM_WORKERS)

-- what a server of these settings does
abbrev pub plan_of : Settings → ServerPlan
plan_of settings =
    record {
      listen = settings.listen;
      admitted = settings.connections;
      turns = settings.turns;
      upstream = settings.upstream;
      askers = settings.askers;
      workers = settings.workers;
      hold = settings.hold;
    }

-- what a server of these settings begins with
abbrev pub server_start : Settings → Option PlainWires → ℕ → Option (List ℕ) → Option (List ℕ) →
    ServerStart
server_start settings told faults ids moments =
    record {
      zones = zones_in settings;
      primaries = primaries_in settings;
      allowed = settings.allowed;
      plan = plan_of settings;
      told = told_at_start (opens_at_once (plan_of settings)) (plan_of settings) told;
      faults = faults;
      ids = ids;
      moments = moments;
    }

-- what was written of these lines: all of them, or, once a write has failed, the first bytes
abbrev pub Wrote : Bool → List ℕ → Option (List ℕ) → Option (List ℕ) → Type 0
Wrote false lines before after = after ≡ appended before lines
Wrote true lines before after = WritesPrefix lines before after

-- the line of the sums of all reports, with those of NOTIFYs and so many datagrams that were dropped for want of memory
abbrev pub sums_line : Option ℕ → Sums → Sums → ℕ → List ℕ
sums_line turns reports notices dropped =
    served_line turns (saturated reports.replies notices.replies)
    (saturated reports.silent notices.silent)
    (saturated (saturated reports.memory notices.memory) dropped)
    (saturated reports.failed notices.failed)

-- what is gathered of a run: how many workers were started before it, and which reports were gathered before and then
pub record Gathering : Type 0 where
  pub waiting : ℕ
  pub before : Option (List Report)
  pub after : Option (List Report)

-- A whole run: the workers were started once, the last wake said that all inlets have ended, and the reports of all workers were
-- gathered. Its last line is this.
pub record IsWhole (turns : Option ℕ) (stages : List (Stage ServerState RunTurn)) (gathering : Gathering)
    (line : List ℕ) : Type 0 where
  pub started : start_count stages ≡ 1
  pub dropped : ℕ
  pub ended : HasEnded stages dropped
  pub sums : Sums
  pub gathers : GathersAll gathering.waiting gathering.before gathering.after sums
  pub line_is : line ≡ sums_line turns sums (with_turn_notices no_sums stages) dropped

-- A server is done: its run, of this kind, is whole, all its lines were written, and this is told afterwards.
pub record ServesBy (runs : List (Stage ServerState RunTurn) → List ℕ → ServerState → Type 0)
    (turns : Option ℕ) (gathering : Gathering) (before after : Option (List ℕ))
    (told : Option PlainWires) : Type 0 where
  pub stages : List (Stage ServerState RunTurn)
  pub lines : List ℕ
  pub last : ServerState
  pub run : runs stages lines last
  pub line : List ℕ
  pub whole : IsWhole turns stages gathering line
  pub written : after ≡ appended before (lines ++ line)
  pub told_is : told ≡ last.feed.told

-- Some turns of such a run were taken, and what was written begins their lines; or the run was whole, and it begins these and the
-- last line.
pub record StopsRun (runs : List (Stage ServerState RunTurn) → List ℕ → ServerState → Type 0)
    (turns : Option ℕ) (gathering : Gathering) (before after : Option (List ℕ)) : Type 0 where
  pub stages : List (Stage ServerState RunTurn)
  pub lines : List ℕ
  pub last : ServerState
  pub run : runs stages lines last
  pub written : WritesPrefix lines before after
      ⊎ ((line : List ℕ) × IsWhole turns stages gathering line
      × WritesPrefix (lines ++ line) before after)

-- the same, or nothing was written
abbrev pub StopsIn : (List (Stage ServerState RunTurn) → List ℕ → ServerState → Type 0) → Option ℕ →
    Gathering → Option (List ℕ) → Option (List ℕ) → Type 0
StopsIn runs turns gathering before after =
    (after ≡ before) ⊎ StopsRun runs turns gathering before after

-- A server that began so is done: its run was whole, and all its lines were written.
abbrev pub ServesWhole : ServerStart → Option ℕ → Gathering → Option (List ℕ) → Option (List ℕ) →
    Option PlainWires → Type 0
ServesWhole start turns gathering before after told =
    ServesBy (RunsTo start) turns gathering before after told

-- a server that began so ended early
abbrev pub StopsServing : ServerStart → Option ℕ → Gathering → Option (List ℕ) →
    Option (List ℕ) → Type 0
StopsServing start turns gathering before after =
    StopsIn (RunsTo start) turns gathering before after
