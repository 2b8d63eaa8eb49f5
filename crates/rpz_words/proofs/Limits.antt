-- What words ask for is within its limits.
use Rattle.std.proofs.Common.{◌≡◌, ◌≢◌, ℕ, ◌≤◌, true, false, List, [], ◌∷◌, length, Option, Some, None, Result, Ok, Err, eqb, ltb, eq-eqb, refl, arith, subst, codes}
use Rattle.std.specs.Prelude.{AllPairs, Bool, IfOk, IfSome, if◌then◌else◌}
use Rattle.std.specs.Option.{ok_or, option_map}
use Rattle.std.specs.List.{All, list_any}
use Rattle.std.specs.Str.{bytes_eq}
use Rattle.std.proofs.lemmas.Bool.{cond_both, or_parts, eqb-false, ltb-false, both_ways}
use Rattle.std.proofs.lemmas.List.Elements.{All-cons, All-nil}
use Rattle.std.proofs.lemmas.List.Kept.{AllPairs-cons}
use Rattle.std.proofs.lemmas.List.Splits.{length-slice_split}
use Rattle.std.proofs.lemmas.Slice.Eq.{slice_eq-Decides, bytes_eq-Decides}
use Rattle.clap.specs.Words.{Row, Text, all_of, first_of}
use Rattle.dns_name.specs.Alike.{same_name}
use Rattle.dns_name.specs.Labels.{lowered}
use Rattle.ip_prefix.specs.declared.Addr.{Addr}
use Rattle.ip_prefix.specs.declared.Addr.TheVariants.{V4, V6}
use Rattle.ip_prefix.specs.Prefix.{PlainPrefix}
use Rattle.networks.specs.Allowed.{is_same_addr, is_same_network}
use Rattle.networks.specs.declared.allow_list.TheConstants.{NETWORK_LIMIT}
use Rattle.networks.specs.NetworkText.{network_text}
use Rattle.edge_io.specs.declared.endpoint.Endpoint.{Endpoint}
use Rattle.edge_io.specs.declared.limits.TheConstants.{LISTEN_LIMIT}
use Rattle.zone_rows.specs.declared.zone.TheConstants.{ZONE_LIMIT}
use Rattle.rpz_words.specs.declared.command.Command.{Command}
use Rattle.rpz_words.specs.declared.command.Command.TheVariants.{Load, Replay, Serve}
use Rattle.rpz_words.specs.declared.settings.TheConstants.{ASKER_LIMIT, CONNECTION_LIMIT, LEAST_CACHE, LOAD_WORKER_LIMIT, MOST_CACHE, QUERY_LIMIT, RULE_LIMIT}
use Rattle.rpz_words.specs.declared.settings.LoadSettings.{LoadSettings}
use Rattle.rpz_words.specs.declared.settings.PlainSettings.{PlainSettings}
use Rattle.rpz_words.specs.declared.settings.Settings.{Settings}
use Rattle.rpz_words.specs.declared.settings.TheConstants.{TURN_LIMIT, USUAL_ASKERS, USUAL_CACHE, USUAL_CONNECTIONS, USUAL_PER_CLIENT, WORKER_LIMIT}
use Rattle.rpz_words.specs.declared.usage_cause.AllowFault.TheVariants as allow
use Rattle.rpz_words.specs.declared.usage_cause.Argument.TheVariants.{Askers, Cache, Hold, Queries, Rules, Seed, TcpClients, TcpPerClient, Turns, Workers}
use Rattle.rpz_words.specs.declared.usage_cause.ListFault.TheVariants as listen
use Rattle.rpz_words.specs.declared.usage_cause.UsageCause.{UsageCause}
use Rattle.rpz_words.specs.declared.usage_cause.UsageCause.TheVariants as cause
use Rattle.rpz_words.specs.declared.usage_cause.ZonesFault.TheVariants as zones_fault
use Rattle.rpz_words.specs.declared.words_error.WordsError.{WordsError}
use Rattle.rpz_words.specs.declared.zones.ZoneSetting.{ZoneSetting}
use Rattle.rpz_words.specs.Endpoint.{endpoint_of}
use Rattle.rpz_words.specs.Lists.{allow_fault, allowed_of, comma_parts, each_of, has_twice, is_comma, is_same_endpoint, listen_fault, listen_of, networks_of}
use Rattle.rpz_words.specs.Outcome.{Gives, cause_if}
use Rattle.rpz_words.specs.Values.{askers_of, cache_of, connections_of, hold_of, load_workers_of, number_to, queries_of, rules_of, seed_of, turns_of, workers_of}
use Rattle.rpz_words.specs.Limits.{IsLoadable, IsServable, IsWithinLimits}
use Rattle.rpz_words.specs.Words.{checked_at, command_of, listen_at, load_settings_of, named_command, plain_settings_of, settings_of, upstream_at, zones_at}
use Rattle.rpz_words.specs.Zones.{HasDistinctOrigins, has_origin, has_repeated}
use Rattle.rpz_words.specs.ZoneWords.{zone_fault, zone_setting_of, zones_of}
use Rattle.dns_name.proofs.Binding.{bind_ok, ok_is}
use Rattle.rpz_words.proofs.Binding.{is_there, no_fault_of}
use Rattle.rpz_words.proofs.EachLemmas.{each_count}
use Rattle.rpz_words.proofs.Forms.{count_within, number_within}
use Rattle.rpz_words.proofs.OptionBinding.{some_is, then_some}

-- names of zones

alike_if : (a b : List (List ℕ)) → lowered a ≡ lowered b → same_name a b ≡ true
alike_if a b e = (slice_eq-Decides bytes_eq-Decides (lowered a) (lowered b) (same_name a b) refl).1 e

differs : (a b : List (List ℕ)) → same_name a b ≡ false → lowered a ≢ lowered b
differs a b h e = both_ways (same_name a b) h (alike_if a b e)

abbrev HasOtherName : List (List ℕ) → ZoneSetting → Type 0
HasOtherName name zone = lowered name ≢ lowered zone.origin

all_differ : (name : List (List ℕ)) (zones : List ZoneSetting) → has_origin name zones ≡ false → All (HasOtherName name) zones
all_differ name [] h = All-nil (HasOtherName name)
all_differ name (zone ∷ zones) h =
    let tests = or_parts (same_name name zone.origin) (has_origin name zones) h in
    All-cons (HasOtherName name) zone zones (differs name zone.origin tests.0) (all_differ name zones tests.1)

distinct : (zones : List ZoneSetting) → has_repeated zones ≡ false → HasDistinctOrigins zones
distinct [] h = λ i j d lt within. absurd (omega arith)
distinct (zone ∷ zones) h =
    let tests = or_parts (has_origin zone.origin zones) (has_repeated zones) h in
    AllPairs-cons (λ one. HasOtherName one.origin) zone zones (all_differ zone.origin zones tests.0) (distinct zones tests.1)

record AreWithin (zones : List ZoneSetting) : Type 0 where
  some_zones : 1 ≤ length zones
  few_zones : length zones ≤ ZONE_LIMIT
  distinct_zones : HasDistinctOrigins zones

zones_within : (texts : List Text) (zones : List ZoneSetting) → zones_of texts ≡ Ok zones → AreWithin zones
unfolding zones_of
zones_within texts zones e =
    let n = bind_ok (cause_if (eqb (length texts) 0) cause.Words) _ zones e in
    let a = bind_ok (cause_if (ltb ZONE_LIMIT (length texts)) (cause.Zones zones_fault.Many)) _ zones n.2 in
    let b = bind_ok (each_of zone_setting_of zone_fault 1 texts) _ zones a.2 in
    let c = bind_ok (cause_if (has_repeated b.0) (cause.Zones zones_fault.Repeated)) _ zones b.2 in
    let count = each_count zone_setting_of zone_fault 1 texts b.0 b.1 in
    let below : length texts ≤ ZONE_LIMIT = ltb-false ZONE_LIMIT (length texts) (no_fault_of _ _ a.0 a.1) in
    let above : length texts ≢ 0 = eqb-false (length texts) 0 (no_fault_of _ _ n.0 n.1) in
    subst AreWithin (ok_is b.0 zones c.2) (record {
      some_zones = omega (arith, count, above);
      few_zones = omega (arith, count, below);
      distinct_zones = distinct b.0 (no_fault_of _ _ c.0 c.1);
    })

-- lists of endpoints and of networks

-- values that a test tells apart differ
none_same : {A : Type 0} (same : A → A → Bool) → ((x : A) → same x x ≡ true) → (x : A) (xs : List A) → list_any (λ other. same other x) xs ≡ false → All (λ other. x ≢ other) xs
none_same same is x [] h = All-nil (λ other. x ≢ other)
none_same same is x (y ∷ ys) h =
    let tests = or_parts (same y x) (list_any (λ other. same other x) ys) h in
    All-cons (λ other. x ≢ other) y ys (λ e. both_ways (same y x) tests.0 (subst (λ z. same z x ≡ true) e (is x))) (none_same same is x ys tests.1)

none_twice : {A : Type 0} (same : A → A → Bool) → ((x : A) → same x x ≡ true) → (xs : List A) → has_twice same xs ≡ false → AllPairs (λ one other. one ≢ other) xs
none_twice same is [] h = λ i j d lt within. absurd (omega arith)
none_twice same is (x ∷ xs) h =
    let tests = or_parts (list_any (λ other. same other x) xs) (has_twice same xs) h in
    AllPairs-cons (λ one other. one ≢ other) x xs (none_same same is x xs tests.0) (none_twice same is xs tests.1)

same_addr : (a : Addr) → is_same_addr a a ≡ true
same_addr (V4 n) = eq-eqb n n refl
same_addr (V6 n) = eq-eqb n n refl

same_endpoint : (a : Endpoint) → is_same_endpoint a a ≡ true
same_endpoint a = rw (same_addr a.addr, eq-eqb a.port a.port refl) refl

same_network : (a : PlainPrefix) → is_same_network a a ≡ true
same_network a = rw (same_addr a.addr, eq-eqb a.length a.length refl) refl

record AreEndpoints (endpoints : List Endpoint) : Type 0 where
  some : 1 ≤ length endpoints
  few : length endpoints ≤ LISTEN_LIMIT
  other : AllPairs (λ one other. one ≢ other) endpoints

listen_within : (text : Text) (endpoints : List Endpoint) → listen_of text ≡ Ok endpoints → AreEndpoints endpoints
unfolding listen_of
listen_within text endpoints e =
    let a = bind_ok (cause_if (ltb LISTEN_LIMIT (length (comma_parts text))) (cause.Listen listen.Many)) _ endpoints e in
    let b = bind_ok (each_of endpoint_of listen_fault 1 (comma_parts text)) _ endpoints a.2 in
    let c = bind_ok (cause_if (has_twice is_same_endpoint b.0) (cause.Listen listen.Repeated)) _ endpoints b.2 in
    let count = each_count endpoint_of listen_fault 1 (comma_parts text) b.0 b.1 in
    let below : length (comma_parts text) ≤ LISTEN_LIMIT = ltb-false LISTEN_LIMIT (length (comma_parts text)) (no_fault_of _ _ a.0 a.1) in
    subst AreEndpoints (ok_is b.0 endpoints c.2) (record {
      some = omega (arith, count, length-slice_split is_comma text);
      few = omega (arith, count, below);
      other = none_twice is_same_endpoint same_endpoint b.0 (no_fault_of _ _ c.0 c.1);
    })

record AreNetworks (networks : List PlainPrefix) : Type 0 where
  few : length networks ≤ NETWORK_LIMIT
  other : AllPairs (λ one other. one ≢ other) networks

networks_within : (text : Text) (networks : List PlainPrefix) → networks_of text ≡ Ok networks → AreNetworks networks
unfolding networks_of
networks_within text networks e =
    let a = bind_ok (cause_if (ltb NETWORK_LIMIT (length (comma_parts text))) (cause.Allow allow.Many)) _ networks e in
    let b = bind_ok (each_of network_text allow_fault 1 (comma_parts text)) _ networks a.2 in
    let c = bind_ok (cause_if (has_twice is_same_network b.0) (cause.Allow allow.Repeated)) _ networks b.2 in
    let count = each_count network_text allow_fault 1 (comma_parts text) b.0 b.1 in
    let below : length (comma_parts text) ≤ NETWORK_LIMIT = ltb-false NETWORK_LIMIT (length (comma_parts text)) (no_fault_of _ _ a.0 a.1) in
    subst AreNetworks (ok_is b.0 networks c.2) (record {
      few = omega (arith, count, below);
      other = none_twice is_same_network same_network b.0 (no_fault_of _ _ c.0 c.1);
    })

-- what `--allow` says is within its bounds, and so is no list
allowed_within : (value : Option Text) (networks : List PlainPrefix) → allowed_of value ≡ Ok networks → AreNetworks networks
allowed_within None networks e = subst AreNetworks (ok_is [] networks e) (record { few = omega arith; other = λ i j d lt within. absurd (omega arith) })
allowed_within (Some text) networks e = networks_within text networks e

-- settings

record IsCacheLimit (most : ℕ) : Type 0 where
  enough : LEAST_CACHE ≤ most
  few : most ≤ MOST_CACHE

-- what `--cache` says is within its bounds, and so is the usual number
cache_within : (value : Option Text) (most : ℕ) → cache_of value ≡ Some most → IsCacheLimit most
cache_within None most e = subst IsCacheLimit (some_is USUAL_CACHE most e) (record { enough = omega arith; few = omega arith })
cache_within (Some digits) most e =
    let bounds = number_within LEAST_CACHE MOST_CACHE digits most e in
    record { enough = bounds.0; few = bounds.1 }

record AreAskers (askers : ℕ) : Type 0 where
  some : 1 ≤ askers
  few : askers ≤ ASKER_LIMIT

-- what `--askers` says is within its bounds, and so is the usual number
askers_within : (value : Option Text) (askers : ℕ) → askers_of value ≡ Some askers → AreAskers askers
askers_within None askers e = subst AreAskers (some_is USUAL_ASKERS askers e) (record { some = omega arith; few = omega arith })
askers_within (Some digits) askers e =
    let bounds = number_within 1 ASKER_LIMIT digits askers e in
    record { some = bounds.0; few = bounds.1 }

record AreConnections (count : ℕ) : Type 0 where
  some : 1 ≤ count
  few : count ≤ CONNECTION_LIMIT

-- what an option says of connections is within its bounds, where the usual number is
connections_within : (usual : ℕ) (value : Option Text) (count : ℕ) → AreConnections usual → connections_of usual value ≡ Some count → AreConnections count
connections_within usual None count u e = subst AreConnections (some_is usual count e) u
connections_within usual (Some digits) count u e =
    let bounds = number_within 1 CONNECTION_LIMIT digits count e in
    record { some = bounds.0; few = bounds.1 }

usual_connections : AreConnections USUAL_CONNECTIONS
usual_connections = record { some = omega arith; few = omega arith }

usual_per_client : AreConnections USUAL_PER_CLIENT
usual_per_client = record { some = omega arith; few = omega arith }

-- a number of arrivals is 1 at least
number_of_turns : (digits : Text) (found : Option ℕ) (turns : Option ℕ) → number_to TURN_LIMIT digits ≡ found → option_map (λ (n : ℕ). Some n) found ≡ Some turns → IfSome turns (λ n. 1 ≤ n)
number_of_turns digits None turns at e = cc
number_of_turns digits (Some n) turns at e =
    let P : Option ℕ → Type 0 = λ t. IfSome t (λ n. 1 ≤ n) in subst P (some_is (Some n) turns e) (number_within 1 TURN_LIMIT digits n at).0

turns_by : (forever : Bool) (digits : Text) (turns : Option ℕ) → (if forever then Some None else option_map (λ (n : ℕ). Some n) (number_to TURN_LIMIT digits)) ≡ Some turns → IfSome turns (λ n. 1 ≤ n)
turns_by true digits turns e = let P : Option ℕ → Type 0 = λ t. IfSome t (λ n. 1 ≤ n) in subst P (some_is None turns e) tt
turns_by false digits turns e = number_of_turns digits (number_to TURN_LIMIT digits) turns refl e

turns_within : (text : Text) (turns : Option ℕ) → turns_of text ≡ Some turns → IfSome turns (λ n. 1 ≤ n)
turns_within text turns e = turns_by (bytes_eq text (codes "forever")) text turns e

record IsPlain (plain : PlainSettings) : Type 0 where
  some_turns : IfSome plain.turns (λ turns. 1 ≤ turns)
  some_workers : 1 ≤ plain.workers
  few_workers : plain.workers ≤ WORKER_LIMIT
  askers : AreAskers plain.askers
  cache : IsCacheLimit plain.cache
  all : AreConnections plain.connections.all
  of_client : AreConnections plain.connections.of_client

plain_within : (rows : List Row) (plain : PlainSettings) → plain_settings_of rows ≡ Ok plain → IsPlain plain
unfolding plain_settings_of
plain_within rows plain e =
    let b = bind_ok (upstream_at (codes "UPSTREAM") rows) _ plain e in
    let c = bind_ok (checked_at Turns turns_of (codes "TURNS") rows) _ plain b.2 in
    let d = bind_ok (checked_at Workers workers_of (codes "WORKERS") rows) _ plain c.2 in
    let k = bind_ok (ok_or (askers_of (first_of (codes "N") rows)) (cause.Value Askers)) _ plain d.2 in
    let g = bind_ok (ok_or (cache_of (first_of (codes "ENTRIES") rows)) (cause.Value Cache)) _ plain k.2 in
    let h = bind_ok (ok_or (hold_of (first_of (codes "SECONDS") rows)) (cause.Value Hold)) _ plain g.2 in
    let p = bind_ok (ok_or (connections_of USUAL_CONNECTIONS (first_of (codes "CLIENTS") rows)) (cause.Value TcpClients)) _ plain h.2 in
    let q = bind_ok (ok_or (connections_of USUAL_PER_CLIENT (first_of (codes "EACH") rows)) (cause.Value TcpPerClient)) _ plain p.2 in
    let turns = then_some (first_of (codes "TURNS") rows) turns_of c.0 (is_there _ _ c.0 c.1) in
    let workers = then_some (first_of (codes "WORKERS") rows) workers_of d.0 (is_there _ _ d.0 d.1) in
    subst IsPlain (ok_is _ plain q.2) (record {
      some_turns = turns_within turns.0 c.0 turns.2;
      some_workers = (number_within 1 WORKER_LIMIT workers.0 d.0 workers.2).0;
      few_workers = (number_within 1 WORKER_LIMIT workers.0 d.0 workers.2).1;
      askers = askers_within (first_of (codes "N") rows) k.0 (is_there _ _ k.0 k.1);
      cache = cache_within (first_of (codes "ENTRIES") rows) g.0 (is_there _ _ g.0 g.1);
      all = connections_within USUAL_CONNECTIONS (first_of (codes "CLIENTS") rows) p.0 usual_connections (is_there _ _ p.0 p.1);
      of_client = connections_within USUAL_PER_CLIENT (first_of (codes "EACH") rows) q.0 usual_per_client (is_there _ _ q.0 q.1);
    })

settings_within : (rows : List Row) (settings : Settings) → settings_of rows ≡ Ok settings → IsServable settings
unfolding settings_of
settings_within rows settings e =
    let a = bind_ok (listen_at (codes "LISTEN") rows) _ settings e in
    let b = bind_ok (plain_settings_of rows) _ settings a.2 in
    let c = bind_ok (allowed_of (first_of (codes "PREFIX") rows)) _ settings b.2 in
    let d = bind_ok (zones_at (codes "ZONE@PRIMARY") rows) _ settings c.2 in
    let text = bind_ok (ok_or (first_of (codes "LISTEN") rows) cause.Words) listen_of a.0 a.1 in
    let texts = bind_ok (ok_or (all_of (codes "ZONE@PRIMARY") rows) cause.Words) zones_of d.0 d.1 in
    let endpoints = listen_within text.0 a.0 text.2 in
    let plain = plain_within rows b.0 b.1 in
    let networks = allowed_within (first_of (codes "PREFIX") rows) c.0 c.1 in
    let zones = zones_within texts.0 d.0 texts.2 in
    subst IsServable (ok_is _ settings d.2) (record {
      some_endpoints = endpoints.some;
      few_endpoints = endpoints.few;
      other_endpoints = endpoints.other;
      some_turns = plain.some_turns;
      some_workers = plain.some_workers;
      few_workers = plain.few_workers;
      some_askers = plain.askers.some;
      few_askers = plain.askers.few;
      enough_entries = plain.cache.enough;
      few_entries = plain.cache.few;
      some_connections = plain.all.some;
      few_connections = plain.all.few;
      some_of_client = plain.of_client.some;
      few_of_client = plain.of_client.few;
      few_networks = networks.few;
      other_networks = networks.other;
      some_zones = zones.some_zones;
      few_zones = zones.few_zones;
      distinct = zones.distinct_zones;
    })

load_within : (rows : List Row) (settings : LoadSettings) → load_settings_of rows ≡ Ok settings → IsLoadable settings
unfolding load_settings_of
load_within rows settings e =
    let a = bind_ok (checked_at Seed seed_of (codes "SEED") rows) _ settings e in
    let b = bind_ok (checked_at Rules rules_of (codes "RULES") rows) _ settings a.2 in
    let c = bind_ok (checked_at Queries queries_of (codes "QUERIES") rows) _ settings b.2 in
    let d = bind_ok (checked_at Workers load_workers_of (codes "WORKERS") rows) _ settings c.2 in
    let rules = then_some (first_of (codes "RULES") rows) rules_of b.0 (is_there _ _ b.0 b.1) in
    let queries = then_some (first_of (codes "QUERIES") rows) queries_of c.0 (is_there _ _ c.0 c.1) in
    let workers = then_some (first_of (codes "WORKERS") rows) load_workers_of d.0 (is_there _ _ d.0 d.1) in
    subst IsLoadable (ok_is _ settings d.2) (record {
      few_rules = count_within RULE_LIMIT rules.0 b.0 rules.2;
      few_queries = count_within QUERY_LIMIT queries.0 c.0 queries.2;
      some_workers = (number_within 1 LOAD_WORKER_LIMIT workers.0 d.0 workers.2).0;
      few_workers = (number_within 1 LOAD_WORKER_LIMIT workers.0 d.0 workers.2).1;
    })

-- commands

abbrev Asks : Result Command UsageCause → Command → Type 0
Asks found command = found ≡ Ok command → IsWithinLimits command

named_within : (name : Text) (rows : List Row) (command : Command) → named_command name rows ≡ Ok command → IsWithinLimits command
named_within name rows command =
    cond_both (bytes_eq name (codes "replay")) _ _ (λ o. Asks o command)
    (λ t e. subst IsWithinLimits (ok_is Replay command e) tt)
    (λ t. cond_both (bytes_eq name (codes "serve")) _ _ (λ o. Asks o command)
    (λ u e. let a = bind_ok (settings_of rows) _ command e in subst IsWithinLimits (ok_is (Serve a.0) command a.2) (settings_within rows a.0 a.1))
    (λ u. cond_both (bytes_eq name (codes "load")) _ _ (λ o. Asks o command)
    (λ v e. let a = bind_ok (load_settings_of rows) _ command e in subst IsWithinLimits (ok_is (Load a.0) command a.2) (load_within rows a.0 a.1))
    (λ v e. absurd cc)))

pub command_within : (found : Option (Text × List Row)) (command : Command) → command_of found ≡ Ok command → IsWithinLimits command
command_within None command e = absurd cc
command_within (Some (name, rows)) command e = named_within name rows command e

-- what a function returned
pub outcome_within : (outcome : Result Command WordsError) (found : Option (Text × List Row)) → Gives outcome (command_of found) → IfOk outcome IsWithinLimits
outcome_within (Ok command) found e = command_within found command e
outcome_within (Err error) found e = tt
