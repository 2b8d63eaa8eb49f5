-- What the value of an argument says, if it has the form.
use Rattle.std.specs.Prelude.{ℕ, ◌||◌, if◌then◌else◌, nat_lt, List, length, Option, Some, None, codes}
use Rattle.std.specs.Option.{option_map}
use Rattle.std.specs.Result.{result_ok}
use Rattle.std.specs.Str.{bytes_eq}
use Rattle.networks.specs.Optional.{◌>>=◌, none_if}
use Rattle.script_codec.specs.Field.{number_field}
use Rattle.rpz_words.specs.declared.settings.TheConstants.{ASKER_LIMIT, CONNECTION_LIMIT, HOLD_LIMIT, LEAST_CACHE, LOAD_WORKER_LIMIT, MOST_CACHE, QUERY_LIMIT, RULE_LIMIT, SEED_LIMIT}
use Rattle.rpz_words.specs.declared.settings.TheConstants.{TURN_LIMIT, USUAL_ASKERS, USUAL_CACHE, WORKER_LIMIT}
use Rattle.rpz_words.specs.declared.endpoint_text.TheConstants.{PORT_DIGITS, PORT_LIMIT}

-- a number from `least` to `most`: 1 to 10 decimal digits, without a sign
unfoldable pub number_between : ℕ → ℕ → List ℕ → Option ℕ
number_between least most digits = do
  number ← result_ok (number_field digits)
  _ ← none_if (nat_lt number least || nat_lt most number)
  Some number

-- a number from 1 to `most`
abbrev pub number_to : ℕ → List ℕ → Option ℕ
number_to most digits = number_between 1 most digits

-- a number of at most `most`: 1 to 10 decimal digits, without a sign
unfoldable pub count_to : ℕ → List ℕ → Option ℕ
count_to most digits = do
  number ← result_ok (number_field digits)
  _ ← none_if (nat_lt most number)
  Some number

-- the seed of a load run: 0 to 4,294,967,295
abbrev pub seed_of : List ℕ → Option ℕ
seed_of digits = count_to SEED_LIMIT digits

-- how many rules and queries are made: 0 to 1,000,000
abbrev pub rules_of : List ℕ → Option ℕ
rules_of digits = count_to RULE_LIMIT digits

abbrev pub queries_of : List ℕ → Option ℕ
queries_of digits = count_to QUERY_LIMIT digits

-- how many workers answer in a load run: 1 to 16
abbrev pub load_workers_of : List ℕ → Option ℕ
load_workers_of digits = number_to LOAD_WORKER_LIMIT digits

-- how many arrivals are taken: 1 to 4,294,967,295; or as many as come, which is None
abbrev pub turns_of : List ℕ → Option (Option ℕ)
turns_of text =
    if bytes_eq text (codes "forever") then Some None
    else option_map (λ turns. Some turns) (number_to TURN_LIMIT text)

-- how many workers answer datagrams at each endpoint: 1 to 16
abbrev pub workers_of : List ℕ → Option ℕ
workers_of digits = number_to WORKER_LIMIT digits

-- how many workers ask the upstream, by the value of `--askers`: 256 where it isn't given, else 1 to 512
abbrev pub askers_of : Option (List ℕ) → Option ℕ
askers_of None = Some USUAL_ASKERS
askers_of (Some digits) = number_to ASKER_LIMIT digits

-- how many answers the cache holds at most, by the value of `--cache`: 65,536 where it isn't given, else 16 to 1,048,576
abbrev pub cache_of : Option (List ℕ) → Option ℕ
cache_of None = Some USUAL_CACHE
cache_of (Some digits) = number_between LEAST_CACHE MOST_CACHE digits

-- for how many seconds a server waits for its zones, by the value of `--hold`: not at all where it isn't given, else 0 to
-- 4,294,967,295
abbrev pub hold_of : Option (List ℕ) → Option (Option ℕ)
hold_of None = Some None
hold_of (Some digits) = option_map (λ seconds. Some seconds) (count_to HOLD_LIMIT digits)

-- how many connections of clients may be open, by the value of an option: the usual number where it isn't given, else 1 to 65,535
abbrev pub connections_of : ℕ → Option (List ℕ) → Option ℕ
connections_of usual None = Some usual
connections_of usual (Some digits) = number_to CONNECTION_LIMIT digits

-- a port: 1 to 5 decimal digits, from 1 to 65,535
unfoldable pub port_of : List ℕ → Option ℕ
port_of digits = do
  _ ← none_if (nat_lt PORT_DIGITS (length digits))
  number_to PORT_LIMIT digits
