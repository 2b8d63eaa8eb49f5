-- The load that a seed makes.
use Rattle.std.specs.Prelude.{ℕ, ◌*◌}
use Rattle.load_gen.specs.Draws.{state_after}
use Rattle.load_gen.specs.Loads.{PlainLoad}
use Rattle.load_gen.specs.Queries.{first_queries}
use Rattle.load_gen.specs.Rules.{first_rules}

-- So many rules, and so many queries from the draws behind those of the rules.
abbrev pub load_of : ℕ → ℕ → ℕ → PlainLoad
load_of seed rules queries = record {
  rows = first_rules seed rules;
  queries = first_queries (state_after seed (3 * rules)) queries;
}
