-- What holds of what words ask for.
use Rattle.std.specs.Prelude.{◌≤◌, ◌≢◌, length, AllPairs, IfSome}
use Rattle.networks.specs.declared.allow_list.TheConstants.{NETWORK_LIMIT}
use Rattle.edge_io.specs.declared.limits.TheConstants.{LISTEN_LIMIT}
use Rattle.zone_rows.specs.declared.zone.TheConstants.{ZONE_LIMIT}
use Rattle.rpz_words.specs.declared.command.Command.{Command}
use Rattle.rpz_words.specs.declared.command.Command.TheVariants.{Load, Replay, Serve, Show}
use Rattle.rpz_words.specs.declared.settings.LoadSettings.{LoadSettings}
use Rattle.rpz_words.specs.declared.settings.Settings.{Settings}
use Rattle.rpz_words.specs.declared.settings.TheConstants.{ASKER_LIMIT, CONNECTION_LIMIT, LEAST_CACHE, LOAD_WORKER_LIMIT, MOST_CACHE, QUERY_LIMIT, RULE_LIMIT, WORKER_LIMIT}
use Rattle.rpz_words.specs.Zones.{HasDistinctOrigins}

-- what a server is to do is within its limits
pub record IsServable (settings : Settings) : Type 0 where
  pub some_endpoints : 1 ≤ length settings.listen
  pub few_endpoints : length settings.listen ≤ LISTEN_LIMIT
  pub other_endpoints : AllPairs (λ one other. one ≢ other) settings.listen
  pub some_turns : IfSome settings.turns (λ turns. 1 ≤ turns)
  pub some_workers : 1 ≤ settings.workers
  pub few_workers : settings.workers ≤ WORKER_LIMIT
  pub some_askers : 1 ≤ settings.askers
  pub few_askers : settings.askers ≤ ASKER_LIMIT
  pub enough_entries : LEAST_CACHE ≤ settings.cache
  pub few_entries : settings.cache ≤ MOST_CACHE
  pub some_connections : 1 ≤ settings.connections.all
  pub few_connections : settings.connections.all ≤ CONNECTION_LIMIT
  pub some_of_client : 1 ≤ settings.connections.of_client
  pub few_of_client : settings.connections.of_client ≤ CONNECTION_LIMIT
  pub few_networks : length settings.allowed ≤ NETWORK_LIMIT
  pub other_networks : AllPairs (λ one other. one ≢ other) settings.allowed
  pub some_zones : 1 ≤ length settings.zones
  pub few_zones : length settings.zones ≤ ZONE_LIMIT
  pub distinct : HasDistinctOrigins settings.zones

-- what a load run is to do is within its limits
pub record IsLoadable (settings : LoadSettings) : Type 0 where
  pub few_rules : settings.rules ≤ RULE_LIMIT
  pub few_queries : settings.queries ≤ QUERY_LIMIT
  pub some_workers : 1 ≤ settings.workers
  pub few_workers : settings.workers ≤ LOAD_WORKER_LIMIT

-- All numbers and lists that a command line asks for are within their bounds.
abbrev pub IsWithinLimits : Command → Type 0
IsWithinLimits Replay = Unit {0}
IsWithinLimits (Serve settings) = IsServable settings
IsWithinLimits (Load settings) = IsLoadable settings
IsWithinLimits (Show page) = Unit {0}
