-- What a zone holds after a whole transfer in which no two rows have one identity.
use Rattle.std.proofs.Common.{◌≡◌, ℕ, ◌<◌, ◌≤◌, nat_lt, Bool, true, false, List, length, Result, Ok, Err, sym, ap, ◌∙◌, arith}
use Rattle.std.specs.Prelude.{if◌then◌else◌}
use Rattle.std.proofs.lemmas.Bool.Decides.{nat_tests}
use Rattle.dns_name.specs.Reading.{◌>>=◌}
use Rattle.dns_record.specs.Row.{PlainRow}
use Rattle.dns_record.specs.declared.soa.Soa.{Soa}
use Rattle.zone_index.specs.Indexed.{rows_outcome}
use Rattle.zone_rows.specs.Distinct.{AreDistinct}
use Rattle.zone_rows.specs.Zone.{fewer_rows}
use Rattle.zone_rows.specs.declared.fault.ApplyFault.{ApplyFault}
use Rattle.zone_rows.specs.declared.fault.ApplyFault.TheVariants.{TooManyRows}
use Rattle.zone_rows.specs.declared.zone.Content.{Content}
use Rattle.zone_rows.specs.declared.zone.TheConstants.{ROW_LIMIT}
use Rattle.zone_index.proofs.RowsApart.{kept_distinct}

is_less : (m n : ℕ) → m < n → nat_lt m n ≡ true
is_less m n h = grind (arith, nat_tests)

is_not_less : (m n : ℕ) → n ≤ m → nat_lt m n ≡ false
is_not_less m n h = grind (arith, nat_tests)

abbrev held : Soa → Result (List PlainRow) ApplyFault → Result Content ApplyFault
held soa rows = do
  kept ← rows
  Ok (record { soa = soa; rows = kept })

module _ (soa : Soa) (rows : List PlainRow) (distinct : AreDistinct rows) (count : ℕ) (len : count ≡ length rows) where
  as_rows : rows_outcome soa rows ≡ held soa (fewer_rows ROW_LIMIT rows)
  as_rows = ap (λ (l : List PlainRow). held soa (fewer_rows ROW_LIMIT l)) (kept_distinct rows distinct)

  pub rows_made : count < 16777216 → (other : Soa) (made : List PlainRow) → other ≡ soa → made ≡ rows → rows_outcome soa rows ≡ Ok (record { soa = other; rows = made })
  rows_made few other made s m =
      as_rows
      ∙ ap (λ (b : Bool). held soa (if b then Ok rows else Err (TooManyRows ROW_LIMIT))) (is_less (length rows) ROW_LIMIT (omega (arith, few, len)))
      ∙ (λ i. Ok (record { soa = sym s i; rows = sym m i }))

  pub too_many : 16777216 ≤ count → rows_outcome soa rows ≡ Err (TooManyRows 16777216)
  too_many many = as_rows ∙ ap (λ (b : Bool). held soa (if b then Ok rows else Err (TooManyRows ROW_LIMIT))) (is_not_less (length rows) ROW_LIMIT (omega (arith, many, len)))
