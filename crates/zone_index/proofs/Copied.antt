-- Rows that are copied.
use Rattle.std.proofs.Common.{◌≡◌, ℕ, zero, suc, ◌+◌, List, [], ◌∷◌, ◌++◌, map, take, slice_get, Some, refl, sym, ap, subst, ◌∙◌, arith, length}
use Rattle.std.specs.Prelude.{All}
use Rattle.std.proofs.lemmas.Option.{slice_get_within, get_or_from_slice_get}
use Rattle.std.proofs.lemmas.List.{take_all}
use Rattle.dns_record.specs.Row.{PlainRow}
use Rattle.zone_rows.proofs.Places.{take_item}
use Rattle.packed_lists.specs.Blocks.{PlainRowList}
use Rattle.packed_lists.specs.Stored.{PlainStored}
use Rattle.zone_index.specs.Places.{PlainPlaces}
use Rattle.zone_rows.specs.Stored.{IsStored, plain_row}
use Rattle.zone_index.specs.Placed.{IsIndexed, PlainIndexed}

got_plain : (n : ℕ) (rows : List PlainStored) (s : PlainStored) → slice_get rows n ≡ Some s → slice_get (map plain_row rows) n ≡ Some (plain_row s)
got_plain n [] s e = cc e
got_plain zero (t ∷ rows) s e = let same : t ≡ s = cc e in ap (λ (x : PlainStored). Some (plain_row x)) same
got_plain (suc n) (t ∷ rows) s e = got_plain n rows s e

length_plain : (rows : List PlainStored) → length (map plain_row rows) ≡ length rows
length_plain [] = refl
length_plain (s ∷ rows) = omega (arith, length_plain rows)

-- a copy of rows with their index
pub copied_indexed : (origin other : List (List ℕ)) (list rows : PlainRowList) (places index : PlainPlaces) → other ≡ origin → rows ≡ list → index ≡ places → IsIndexed origin list.rows places → IsIndexed other rows.rows index
copied_indexed origin other list rows places index a b c is =
    subst (λ (o : List (List ℕ)). IsIndexed o rows.rows index) (sym a)
    (subst (λ (l : PlainRowList). IsIndexed origin l.rows index) (sym b)
    (subst (IsIndexed origin list.rows) (sym c) is))

pub copied_seen : (origin other : List (List ℕ)) (list rows : PlainRowList) (value : PlainIndexed) → other ≡ origin → rows ≡ list → record { origin = origin; rows = map plain_row list.rows } ≡ value → record { origin = other; rows = map plain_row rows.rows } ≡ value
copied_seen origin other list rows value a b view = (λ i. record { origin = a i; rows = map plain_row (b i).rows }) ∙ view

-- rows copied one after another
pub one_copied : (n : ℕ) (rows : List PlainStored) (s : PlainStored) (old new : List PlainRow) → old ≡ take n (map plain_row rows) → slice_get rows n ≡ Some s → new ≡ old ++ plain_row s ∷ [] → new ≡ take (n + 1) (map plain_row rows)
one_copied n rows s old new e at is =
    is ∙ ap (λ (l : List PlainRow). l ++ plain_row s ∷ []) e ∙ sym (take_item (map plain_row rows) n (plain_row s) (got_plain n rows s at))

pub all_copied : (n : ℕ) (rows : List PlainStored) (new : List PlainRow) → new ≡ take n (map plain_row rows) → n ≡ length rows → new ≡ map plain_row rows
all_copied n rows new e all = e ∙ take_all n (map plain_row rows) (omega (arith, all, length_plain rows))

-- what is true of all rows is true of one of them
pub stored_got : (rows : List PlainStored) (n : ℕ) (s : PlainStored) → All IsStored rows → slice_get rows n ≡ Some s → IsStored s
stored_got rows n s all at = subst IsStored (get_or_from_slice_get rows n s s at) (all n s (slice_get_within rows n s at))
