-- What the records of a transfer say, read off the places of its SOA records (RFC 1995, section 4; RFC 5936, section 2.2).
use Rattle.std.specs.Prelude.{ℕ, ◌==◌, Bool, true, false, not, ◌&&◌, if◌then◌else◌, List, [], ◌∷◌, map, Option, Some, None, option_map, is_some}
use Rattle.std.specs.Result.{result_ok}
use Rattle.dns_record.specs.declared.soa.Soa.{Soa}
use Rattle.dns_record.specs.Record.{PlainRecord}
use Rattle.dns_record.specs.Row.{PlainRow, row_of}
use Rattle.dns_record.specs.Soa.{soa_in}
use Rattle.dns_record.specs.declared.rtype.TheConstants.{SOA}
use Rattle.zone_rows.specs.Steps.{PlainStep}
use Rattle.zone_rows.specs.declared.transfer.Transfer.{Transfer}
use Rattle.zone_rows.specs.declared.transfer.Transfer.TheVariants.{Whole, Steps}

-- the SOA that a record holds, if it is a SOA record
abbrev pub soa_held : PlainRecord → Option Soa
soa_held r = if r.rtype == SOA then result_ok (soa_in r.ttl r.rdata) else None

abbrev pub holds_soa : PlainRecord → Bool
holds_soa r = is_some (soa_held r)

-- a SOA, and the rows behind it up to the next SOA
pub record Block : Type 0 where
  pub soa : Soa
  pub rows : List PlainRow

-- the records before the first that holds a SOA
abbrev pub until_soa : List PlainRecord → List PlainRecord
until_soa [] = []
until_soa (r ∷ rs) = if holds_soa r then [] else r ∷ until_soa rs

-- a block that begins with this SOA, if there is one, before others
abbrev pub block_before : Option Soa → List PlainRow → List Block → List Block
block_before None rows others = others
block_before (Some soa) rows others = record { soa = soa; rows = rows } ∷ others

-- the blocks of records, one for each SOA
abbrev pub blocks : List PlainRecord → List Block
blocks [] = []
blocks (r ∷ rs) = block_before (soa_held r) (map row_of (until_soa rs)) (blocks rs)

-- The list has no items.
abbrev pub is_empty : {X : Type 0} → List X → Bool
is_empty [] = true
is_empty (x ∷ xs) = false

-- the transfer is incremental: the second record is a SOA, of another serial than the first
abbrev pub is_incremental : List Block → Bool
is_incremental [] = false
is_incremental (first ∷ []) = false
is_incremental (first ∷ second ∷ others) =
    is_empty first.rows && not (second.soa.serial == first.soa.serial)

-- what the rows behind two SOAs say: a step takes out those behind the first, and puts in those behind the second
abbrev pub step_between : Block → Block → PlainStep
step_between old new = record { old = old.soa; deleted = old.rows; new = new.soa; added = new.rows }

-- the steps that the blocks are two by two, up to the first that reaches this serial and has a SOA behind it; None where none
-- does
abbrev pub steps_to : ℕ → List Block → Option (List PlainStep)
steps_to newest [] = None
steps_to newest (old ∷ []) = None
steps_to newest (old ∷ new ∷ []) = None
steps_to newest (old ∷ new ∷ next ∷ others) =
    if new.soa.serial == newest then Some (step_between old new ∷ [])
    else option_map (λ steps. step_between old new ∷ steps) (steps_to newest (next ∷ others))

-- an incremental transfer: steps to the version of the first SOA
abbrev pub incremental_transfer : List Block → Option Transfer
incremental_transfer [] = None
incremental_transfer (first ∷ others) = option_map Steps (steps_to first.soa.serial others)

-- a whole transfer: the first SOA and the rows behind it, up to the second SOA
abbrev pub whole_transfer : List Block → Option Transfer
whole_transfer [] = None
whole_transfer (first ∷ []) = None
whole_transfer (first ∷ second ∷ others) = Some (Whole first.soa first.rows)

-- The transfer that the blocks are, once the SOA that closes it has come.
abbrev pub transfer_of : List Block → Option Transfer
transfer_of bs = if is_incremental bs then incremental_transfer bs else whole_transfer bs
