-- What is answered in a load run.
use Rattle.std.specs.Prelude.{◌≡◌, ◌≤◌, All, List, length}
use Rattle.dns_record.specs.Record.{PlainRecord}
use Rattle.dns_record.specs.declared.class.TheConstants.{IN}
use Rattle.load_gen.specs.declared.load.LoadQuery.{LoadQuery}
use Rattle.load_gen.specs.declared.load.TheConstants.{MOST_QUERIES, MOST_RULES}

-- the rows of the policy zone, as records, and the queries in order
pub record PlainLoad : Type 0 where
  pub rows : List PlainRecord
  pub queries : List LoadQuery

abbrev pub IsIn : PlainRecord → Type 0
IsIn r = r.class ≡ IN

-- the rows are of class IN, and there are not too many of them nor of the queries
abbrev pub IsLoad : List PlainRecord → List LoadQuery → Type 0
IsLoad rows queries = All IsIn rows × (length rows ≤ MOST_RULES) × (length queries ≤ MOST_QUERIES)
