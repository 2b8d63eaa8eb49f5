-- The words of a command line, as `clap` matches them, and what they ask for.
use Rattle.std.specs.Prelude.{if◌then◌else◌, List, ◌∷◌, map, Option, Some, None, Result, Ok, Err, true, String, codes, string_bytes}
use Rattle.std.specs.Option.{ok_or, option_and_then}
use Rattle.std.specs.Str.{bytes_eq}
use Rattle.std.specs.declared.alloc.Global.{Global}
use Rattle.clap.specs.Lexer.{usize_max}
use Rattle.clap.specs.Words.{App, Row, Rule, Text, all_of, first_of, new_app, new_rule, subcommand_of, with_rule, with_subcommand}
use Rattle.clap.specs.declared.builder.action.ArgAction.TheVariants.{Append, Set}
use Rattle.edge_io.specs.declared.endpoint.Endpoint.{Endpoint}
use Rattle.rpz_words.specs.declared.command.Command.{Command}
use Rattle.rpz_words.specs.declared.command.Command.TheVariants.{Load, Replay, Serve, Show}
use Rattle.rpz_words.specs.declared.pages.Page.{Page}
use Rattle.rpz_words.specs.declared.settings.LoadSettings.{LoadSettings}
use Rattle.rpz_words.specs.declared.settings.PlainSettings.{PlainSettings}
use Rattle.rpz_words.specs.declared.settings.Settings.{Settings}
use Rattle.rpz_words.specs.declared.settings.TheConstants.{USUAL_CONNECTIONS, USUAL_PER_CLIENT}
use Rattle.rpz_words.specs.declared.usage_cause.Argument.{Argument}
use Rattle.rpz_words.specs.declared.usage_cause.Argument.TheVariants.{Askers, Cache, Hold, Queries, Rules, Seed, TcpClients, TcpPerClient, Turns, Workers}
use Rattle.rpz_words.specs.declared.usage_cause.UsageCause.{UsageCause}
use Rattle.rpz_words.specs.declared.usage_cause.UsageCause.TheVariants.{Upstream, Value, Words}
use Rattle.rpz_words.specs.declared.zones.ZoneSetting.{ZoneSetting}
use Rattle.rpz_words.specs.Endpoint.{endpoint_of}
use Rattle.rpz_words.specs.Lists.{allowed_of, listen_of}
use Rattle.dns_name.specs.Reading.{◌>>=◌}
use Rattle.rpz_words.specs.Outcome.{or_said}
use Rattle.rpz_words.specs.Pages.{page_of}
use Rattle.rpz_words.specs.Values.{askers_of, cache_of, connections_of, hold_of, load_workers_of, queries_of, rules_of, seed_of, turns_of, workers_of}
use Rattle.rpz_words.specs.ZoneWords.{zones_of}

-- the words behind the program's name
abbrev pub argv : List (String Global) → List Text
argv words = codes "rpz" ∷ map string_bytes words

-- an argument with one value
abbrev pub one_value : Text → Rule
one_value id = record (new_rule id) { required = true; action = Some Set }

-- an argument with one value or more, which takes what is left of the words
abbrev pub some_values : Text → Rule
some_values id = record (new_rule id) {
  required = true;
  action = Some Append;
  range = Some (record { start_inclusive = 1; end_inclusive = usize_max });
}

-- an option `--name` with one value, which may be left out, and stands anywhere
abbrev pub option_value : Text → Text → Rule
option_value name id = record (new_rule id) { long = Some name; action = Some Set }

-- `serve [--askers N] [--cache ENTRIES] [--hold SECONDS] [--tcp-clients CLIENTS] [--tcp-per-client EACH] [--allow PREFIX,...]`
abbrev pub serve_options_app : App
serve_options_app = with_rule (with_rule (with_rule (with_rule (with_rule (with_rule
    (new_app (codes "serve")) (option_value (codes "askers") (codes "N")))
    (option_value (codes "cache") (codes "ENTRIES")))
    (option_value (codes "hold") (codes "SECONDS")))
    (option_value (codes "tcp-clients") (codes "CLIENTS")))
    (option_value (codes "tcp-per-client") (codes "EACH")))
    (option_value (codes "allow") (codes "PREFIX"))

-- `serve` with its options, and then `LISTEN UPSTREAM TURNS WORKERS ZONE@PRIMARY...`
abbrev pub serve_app : App
serve_app = with_rule (with_rule (with_rule (with_rule (with_rule serve_options_app
    (one_value (codes "LISTEN"))) (one_value (codes "UPSTREAM"))) (one_value (codes "TURNS")))
    (one_value (codes "WORKERS"))) (some_values (codes "ZONE@PRIMARY"))

-- `load SEED RULES QUERIES WORKERS`
abbrev pub load_app : App
load_app = with_rule (with_rule (with_rule (with_rule (new_app (codes "load"))
    (one_value (codes "SEED"))) (one_value (codes "RULES"))) (one_value (codes "QUERIES")))
    (one_value (codes "WORKERS"))

-- the command set: `rpz replay`, `rpz serve` and `rpz load`
abbrev pub rpz_app : App
rpz_app = with_subcommand (with_subcommand (with_subcommand (new_app (codes "rpz"))
    (new_app (codes "replay")).top) serve_app.top) load_app.top

-- what the value of an argument says, if it is there and has the form
abbrev pub value_at : {A : Type 0} → (Text → Option A) → Text → List Row → Option A
value_at form id rows = option_and_then form (first_of id rows)

-- the same, or the cause: a value that hasn't the form
abbrev pub checked_at : {A : Type 0} → Argument → (Text → Option A) → Text → List Row →
    Result A UsageCause
checked_at argument form id rows = ok_or (value_at form id rows) (Value argument)

-- the endpoints of LISTEN
abbrev pub listen_at : Text → List Row → Result (List Endpoint) UsageCause
listen_at id rows = ok_or (first_of id rows) Words >>= listen_of

-- the endpoint of UPSTREAM
abbrev pub upstream_at : Text → List Row → Result Endpoint UsageCause
upstream_at id rows = ok_or (first_of id rows) Words >>= (λ text. or_said Upstream (endpoint_of text))

-- the zones that the values of an argument make
abbrev pub zones_at : Text → List Row → Result (List ZoneSetting) UsageCause
zones_at id rows = ok_or (all_of id rows) Words >>= zones_of

-- what those values of `serve` say that are one number, word or endpoint each
unfoldable pub plain_settings_of : List Row → Result PlainSettings UsageCause
plain_settings_of rows = do
  upstream ← upstream_at (codes "UPSTREAM") rows
  turns ← checked_at Turns turns_of (codes "TURNS") rows
  workers ← checked_at Workers workers_of (codes "WORKERS") rows
  askers ← ok_or (askers_of (first_of (codes "N") rows)) (Value Askers)
  cache ← ok_or (cache_of (first_of (codes "ENTRIES") rows)) (Value Cache)
  hold ← ok_or (hold_of (first_of (codes "SECONDS") rows)) (Value Hold)
  clients ← ok_or (connections_of USUAL_CONNECTIONS (first_of (codes "CLIENTS") rows)) (Value TcpClients)
  each ← ok_or (connections_of USUAL_PER_CLIENT (first_of (codes "EACH") rows)) (Value TcpPerClient)
  Ok (record {
    upstream = upstream;
    turns = turns;
    workers = workers;
    askers = askers;
    cache = cache;
    hold = hold;
    connections = record { all = clients; of_client = each };
  })

-- what the values of `serve` say, or why they say nothing
unfoldable pub settings_of : List Row → Result Settings UsageCause
settings_of rows = do
  listen ← listen_at (codes "LISTEN") rows
  plain ← plain_settings_of rows
  allowed ← allowed_of (first_of (codes "PREFIX") rows)
  zones ← zones_at (codes "ZONE@PRIMARY") rows
  Ok (record {
    listen = listen;
    upstream = plain.upstream;
    turns = plain.turns;
    workers = plain.workers;
    askers = plain.askers;
    cache = plain.cache;
    hold = plain.hold;
    connections = plain.connections;
    allowed = allowed;
    zones = zones;
  })

-- what the values of `load` say, or why they say nothing
unfoldable pub load_settings_of : List Row → Result LoadSettings UsageCause
load_settings_of rows = do
  seed ← checked_at Seed seed_of (codes "SEED") rows
  rules ← checked_at Rules rules_of (codes "RULES") rows
  queries ← checked_at Queries queries_of (codes "QUERIES") rows
  workers ← checked_at Workers load_workers_of (codes "WORKERS") rows
  Ok (record { seed = seed; rules = rules; queries = queries; workers = workers })

-- what a subcommand of this name and these values asks for
abbrev pub named_command : Text → List Row → Result Command UsageCause
named_command name rows =
    if bytes_eq name (codes "replay") then Ok Replay
    else (if bytes_eq name (codes "serve")
    then (settings_of rows >>= λ settings. Ok (Serve settings))
    else (if bytes_eq name (codes "load")
    then (load_settings_of rows >>= λ settings. Ok (Load settings))
    else Err Words))

-- what the matches of the words ask for, by the subcommand and its values
abbrev pub command_of : Option (Text × List Row) → Result Command UsageCause
command_of None = Err Words
command_of (Some (name, rows)) = named_command name rows

-- the page that the words ask for, if they do
abbrev pub page_in : List (String Global) → Option Page
page_in words = page_of (map string_bytes words)

-- A page is shown where one is asked for; other words are those of a command.
abbrev pub command_by : Option Page → List (String Global) → Result Command UsageCause
command_by (Some page) words = Ok (Show page)
command_by None words = command_of (subcommand_of rpz_app (argv words))

-- what the words behind the program's name ask for, or why they ask for nothing
abbrev pub command_in : List (String Global) → Result Command UsageCause
command_in words = command_by (page_in words) words
