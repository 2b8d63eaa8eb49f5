-- The blocks of records with one record more.
use Rattle.std.specs.Prelude.{◌≡◌, if◌then◌else◌, List, [], ◌∷◌, ◌++◌, map, Option, Some, None, is_some, refl}
use Rattle.std.proofs.Common.{ap, ◌∙◌}
use Rattle.dns_record.specs.declared.soa.Soa.{Soa}
use Rattle.dns_record.specs.Record.{PlainRecord}
use Rattle.dns_record.specs.Row.{PlainRow, row_of}
use Rattle.axfr_apply.specs.Block.{Block, block_before, blocks, soa_held, until_soa}
use Rattle.axfr_apply.specs.Gathered.{with_held, with_record}

-- the rows before the first SOA, with one record more behind the blocks
abbrev rows_with : List PlainRow → List Block → PlainRow → Option Soa → List PlainRow
rows_with rows [] row None = rows ++ row ∷ []
rows_with rows [] row (Some soa) = rows
rows_with rows (b ∷ bs) row held = rows

rows_with-cons : (first : PlainRow) (rows : List PlainRow) (bs : List Block) (row : PlainRow) (held : Option Soa) → first ∷ rows_with rows bs row held ≡ rows_with (first ∷ rows) bs row held
rows_with-cons first rows [] row None = refl
rows_with-cons first rows [] row (Some soa) = refl
rows_with-cons first rows (b ∷ bs) row held = refl

first_until : (r : PlainRecord) (held : Option Soa) → map row_of (if is_some held then [] else r ∷ []) ≡ rows_with [] [] (row_of r) held
first_until r None = refl
first_until r (Some soa) = refl

-- one record before others, by the SOA that it holds
next_until : (x : PlainRecord) (some more : List PlainRecord) (bs : List Block) (row : PlainRow) (first held : Option Soa)
    → map row_of more ≡ rows_with (map row_of some) bs row held
    → map row_of (if is_some first then [] else x ∷ more)
    ≡ rows_with (map row_of (if is_some first then [] else x ∷ some)) (block_before first (map row_of some) bs) row held
next_until x some more bs row None held e = ap (λ rows. row_of x ∷ rows) e ∙ rows_with-cons (row_of x) (map row_of some) bs row held
next_until x some more bs row (Some soa) held e = refl

until-append : (rs : List PlainRecord) (r : PlainRecord)
    → map row_of (until_soa (rs ++ r ∷ [])) ≡ rows_with (map row_of (until_soa rs)) (blocks rs) (row_of r) (soa_held r)
until-append [] r = first_until r (soa_held r)
until-append (x ∷ rs) r =
    next_until x (until_soa rs) (until_soa (rs ++ r ∷ [])) (blocks rs) (row_of r) (soa_held x) (soa_held r) (until-append rs r)

before_with : (rows : List PlainRow) (bs : List Block) (row : PlainRow) (first held : Option Soa)
    → block_before first (rows_with rows bs row held) (with_held bs row held) ≡ with_held (block_before first rows bs) row held
before_with rows bs row None held = refl
before_with rows [] row (Some soa) None = refl
before_with rows [] row (Some soa) (Some next) = refl
before_with rows (b ∷ bs) row (Some soa) None = refl
before_with rows (b ∷ bs) row (Some soa) (Some next) = refl

first_block : (row : PlainRow) (held : Option Soa) → block_before held [] [] ≡ with_held [] row held
first_block row None = refl
first_block row (Some soa) = refl

pub one_more_record : (rs : List PlainRecord) (r : PlainRecord) → blocks (rs ++ r ∷ []) ≡ with_record (blocks rs) r
one_more_record [] r = first_block (row_of r) (soa_held r)
one_more_record (x ∷ rs) r =
    ap (λ rows. block_before (soa_held x) rows (blocks (rs ++ r ∷ []))) (until-append rs r)
    ∙ ap (λ bs. block_before (soa_held x) (rows_with (map row_of (until_soa rs)) (blocks rs) (row_of r) (soa_held r)) bs) (one_more_record rs r)
    ∙ before_with (map row_of (until_soa rs)) (blocks rs) (row_of r) (soa_held x) (soa_held r)
