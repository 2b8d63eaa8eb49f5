-- Rows without repeats are the first of each identity, in order.
use Rattle.std.proofs.Common.{◌≡◌, ◌≢◌, ℕ, zero, suc, ◌<◌, ◌≤◌, Bool, true, false, ◌||◌, List, [], ◌∷◌, ◌++◌, length, get_or, ◌↔◌, ◌⊎◌, ⊎_elim, inl, inr, Some, refl, sym, ap, ◌∙◌, subst, append_assoc, length-append, arith, nat_lt, if◌then◌else◌, Ok, Err, Result}
use Rattle.std.specs.List.{Contains, list_any}
use Rattle.std.specs.Prelude.{fold}
use Rattle.std.specs.Str.{bytes_eq}
use Rattle.std.proofs.Math.Bool.{or-false}
use Rattle.std.proofs.Math.Seq.{get_or-append_seam}
use Rattle.std.proofs.lemmas.Bool.{ltb-true, ltb-false}
use Rattle.std.proofs.lemmas.List.{append-nil, get_or_append_left, get_or_default}
use Rattle.std.proofs.lemmas.List.Elements.{Contains-append_left, Contains-append_cases, Contains-push}
use Rattle.std.proofs.lemmas.List.Folds.{list_any-append}
use Rattle.std.proofs.lemmas.List.Quantifiers.{all_pairs_push}
use Rattle.std.proofs.lemmas.Slice.Eq.{bytes_eq-Decides}
use Rattle.dns_name.specs.Reading.{◌>>=◌}
use Rattle.dns_record.specs.declared.soa.Soa.{Soa}
use Rattle.zone_rows.specs.declared.fault.ApplyFault.{ApplyFault}
use Rattle.zone_rows.specs.declared.transfer.Transfer.TheVariants.{Whole}
use Rattle.zone_rows.specs.declared.zone.PlainZone.{PlainZone}
use Rattle.zone_rows.specs.declared.zone.TheConstants.{ROW_LIMIT}
use Rattle.zone_rows.specs.Distinct.{AreDistinct, IsFirst, Precedes, HasDistinctRows}
use Rattle.zone_rows.specs.Repeats.{has_row, with_row, without_repeats}
use Rattle.dns_record.specs.Row.{PlainRow, AreAlike, identity}
use Rattle.zone_rows.specs.Zone.{newer_soa, fewer_rows, apply_outcome_within, apply_outcome}

-- a test of identities that fails, and one that holds
differ : (row other : PlainRow) → bytes_eq (identity row) (identity other) ≡ false → identity other ≢ identity row
differ row other e same = let t : bytes_eq (identity row) (identity other) ≡ true = (bytes_eq-Decides (identity row) (identity other)).1 (sym same) in absurd cc

no_test : (row other : PlainRow) (b : Bool) → bytes_eq (identity row) (identity other) ≡ b → identity other ≢ identity row → b ≡ false
no_test row other true e other_one = absurd (other_one (sym ((bytes_eq-Decides (identity row) (identity other)).0 e)))
no_test row other false e other_one = refl

-- none of the rows has the identity
none_by : (first : PlainRow) (rows : List PlainRow) (row d : PlainRow) → (has_row rows row ≡ false → (k : ℕ) → k < length rows → identity (get_or rows k d) ≢ identity row) → (b : Bool) → bytes_eq (identity row) (identity first) ≡ b
    → (b || has_row rows row) ≡ false → (k : ℕ) → k < length (first ∷ rows) → identity (get_or (first ∷ rows) k d) ≢ identity row
none_by first rows row d others true t e k h = absurd cc
none_by first rows row d others false t e zero h = differ row first t
none_by first rows row d others false t e (suc k) h = others e k (omega (arith, h))

pub none_has : (rows : List PlainRow) (row d : PlainRow) → has_row rows row ≡ false → (k : ℕ) → k < length rows → identity (get_or rows k d) ≢ identity row
none_has [] row d e k h = absurd (omega (arith, h))
none_has (first ∷ rows) row d e k h = none_by first rows row d (none_has rows row d) (bytes_eq (identity row) (identity first)) refl e k h

has_none : (rows : List PlainRow) (row : PlainRow) → ((k : ℕ) → k < length rows → identity (get_or rows k row) ≢ identity row) → has_row rows row ≡ false
has_none [] row each = refl
has_none (first ∷ rows) row each =
    let t : bytes_eq (identity row) (identity first) ≡ false = no_test row first (bytes_eq (identity row) (identity first)) refl (each 0 (omega arith)) in
    rw t (has_none rows row (λ k h. each (suc k) (omega (arith, h))))

-- a row is first in a longer list
first_longer : (rows : List PlainRow) (new row : PlainRow) → IsFirst rows row → IsFirst (rows ++ new ∷ []) row
first_longer rows new row f = record {
  place = f.place;
  within = omega (arith, f.within, length-append rows (new ∷ []));
  is_row = get_or_append_left rows (new ∷ []) row f.place f.within ∙ f.is_row;
  is_new = λ earlier h same. f.is_new earlier h (sym (ap identity (get_or_append_left rows (new ∷ []) row earlier (omega (arith, h, f.within)))) ∙ same);
}

-- a new row is first at the end
first_last : (rows : List PlainRow) (new row : PlainRow) → row ≡ new → has_row rows new ≡ false → IsFirst (rows ++ new ∷ []) row
first_last rows new row e none = subst (IsFirst (rows ++ new ∷ [])) (sym e) (record {
  place = length rows;
  within = omega (arith, length-append rows (new ∷ []));
  is_row = get_or-append_seam rows new [] new;
  is_new = λ earlier h same. none_has rows new new none earlier h (sym (ap identity (get_or_append_left rows (new ∷ []) new earlier h)) ∙ same);
})

-- a first row of a list with one more is first before, or it is that one and new
first_cases : (rows : List PlainRow) (new row : PlainRow) → IsFirst (rows ++ new ∷ []) row → IsFirst rows row ⊎ ((row ≡ new) × (has_row rows new ≡ false))
first_cases rows new row f = by_place (nat_lt f.place (length rows)) refl
  where
    by_place : (b : Bool) → nat_lt f.place (length rows) ≡ b → IsFirst rows row ⊎ ((row ≡ new) × (has_row rows new ≡ false))
    by_place true e =
        let lt : f.place < length rows = ltb-true _ _ e in
        inl (record {
          place = f.place;
          within = lt;
          is_row = sym (get_or_append_left rows (new ∷ []) row f.place lt) ∙ f.is_row;
          is_new = λ earlier h same. f.is_new earlier h (ap identity (get_or_append_left rows (new ∷ []) row earlier (omega (arith, h, lt))) ∙ same);
        })
    by_place false e =
        let ge : length rows ≤ f.place = ltb-false _ _ e in
        let last : f.place ≡ length rows = omega (arith, ge, f.within, length-append rows (new ∷ [])) in
        let is : row ≡ new = sym f.is_row ∙ ap (λ (k : ℕ). get_or (rows ++ new ∷ []) k row) last ∙ get_or-append_seam rows new [] row in
        let each = λ (k : ℕ) (h : k < length rows) (same : identity (get_or rows k row) ≡ identity row).
        f.is_new k (omega (arith, h, last)) (ap identity (get_or_append_left rows (new ∷ []) row k h) ∙ same) in
        inr (is, subst (λ (r : PlainRow). has_row rows r ≡ false) is (has_none rows row each))

-- order in a longer list
precedes_longer : (rows : List PlainRow) (new row other : PlainRow) → Precedes rows row other → Precedes (rows ++ new ∷ []) row other
precedes_longer rows new row other p = record {
  place = p.place;
  later = p.later;
  in_order = p.in_order;
  within = omega (arith, p.within, length-append rows (new ∷ []));
  is_row = get_or_append_left rows (new ∷ []) row p.place (omega (arith, p.in_order, p.within)) ∙ p.is_row;
  is_other = get_or_append_left rows (new ∷ []) other p.later p.within ∙ p.is_other;
}

-- the last row stands behind each of the others
precedes_last : (rows : List PlainRow) (new row other : PlainRow) → other ≡ new → Contains rows row → Precedes (rows ++ new ∷ []) row other
precedes_last rows new row other e c = subst (Precedes (rows ++ new ∷ []) row) (sym e) (record {
  place = c.0;
  later = length rows;
  in_order = c.1;
  within = omega (arith, length-append rows (new ∷ []));
  is_row = get_or_append_left rows (new ∷ []) row c.0 c.1 ∙ c.2;
  is_other = get_or-append_seam rows new [] new;
})

precedes_cases : (rows : List PlainRow) (new row other : PlainRow) → Precedes (rows ++ new ∷ []) row other → Precedes rows row other ⊎ ((other ≡ new) × Contains rows row)
precedes_cases rows new row other p = by_place (nat_lt p.later (length rows)) refl
  where
    first : p.place < length rows
    first = omega (arith, p.in_order, p.within, length-append rows (new ∷ []))

    is_row : get_or rows p.place row ≡ row
    is_row = sym (get_or_append_left rows (new ∷ []) row p.place first) ∙ p.is_row

    by_place : (b : Bool) → nat_lt p.later (length rows) ≡ b → Precedes rows row other ⊎ ((other ≡ new) × Contains rows row)
    by_place true e =
        let lt : p.later < length rows = ltb-true _ _ e in
        inl (record {
          place = p.place;
          later = p.later;
          in_order = p.in_order;
          within = lt;
          is_row = is_row;
          is_other = sym (get_or_append_left rows (new ∷ []) other p.later lt) ∙ p.is_other;
        })
    by_place false e =
        let ge : length rows ≤ p.later = ltb-false _ _ e in
        let last : p.later ≡ length rows = omega (arith, ge, p.within, length-append rows (new ∷ [])) in
        inr (sym p.is_other ∙ ap (λ (k : ℕ). get_or (rows ++ new ∷ []) k other) last ∙ get_or-append_seam rows new [] other, (p.place, first, is_row))

-- a first row is among the rows
is_among : (rows : List PlainRow) (row : PlainRow) → IsFirst rows row → Contains rows row
is_among rows row f = (f.place, f.within, f.is_row)

-- what was kept of the rows that were taken
record Keeps (taken kept : List PlainRow) : Type 0 where
  distinct : AreDistinct kept
  firsts : (row : PlainRow) → Contains kept row ↔ IsFirst taken row
  ordered : (row other : PlainRow) → Precedes kept row other → Precedes taken row other
  same_tests : (row : PlainRow) → has_row kept row ≡ has_row taken row

keeps_none : Keeps [] []
keeps_none = record {
  distinct = λ i j d h k. absurd (omega (arith, k));
  firsts = λ row. ((λ c. absurd (omega (arith, c.1))), (λ f. absurd (omega (arith, f.within))));
  ordered = λ row other p. p;
  same_tests = λ row. refl;
}

one_of : (row new : PlainRow) → Contains (new ∷ []) row → row ≡ new
one_of row new (zero, h, e) = sym e
one_of row new (suc k, h, e) = absurd (omega (arith, h))

or_known : (a b : Bool) → (b ≡ true → a ≡ true) → (a || b) ≡ a
or_known true b h = refl
or_known false true h = let e = h refl in absurd cc
or_known false false h = refl

tests_more : (rows : List PlainRow) (new row : PlainRow) → has_row (rows ++ new ∷ []) row ≡ (has_row rows row || bytes_eq (identity row) (identity new))
tests_more rows new row =
    list_any-append (λ other. bytes_eq (identity row) (identity other)) rows (new ∷ [])
    ∙ ap (λ (b : Bool). has_row rows row || b) (or-false (bytes_eq (identity row) (identity new)))

keeps_new : (taken kept : List PlainRow) (new : PlainRow) → Keeps taken kept → has_row kept new ≡ false → Keeps (taken ++ new ∷ []) (kept ++ new ∷ [])
keeps_new taken kept new k none = record {
  distinct = all_pairs_push (λ row other. identity row ≢ identity other) kept new k.distinct (λ i d h. none_has kept new d none i h);
  firsts = λ row. (
    (λ c. ⊎_elim (λ l. first_longer taken new row ((k.firsts row).0 l)) (λ r. first_last taken new row (one_of row new r) absent) (Contains-append_cases kept (new ∷ []) row c)),
    (λ f. ⊎_elim (λ l. Contains-append_left kept (new ∷ []) row ((k.firsts row).1 l)) (λ r. subst (Contains (kept ++ new ∷ [])) (sym r.0) (Contains-push kept new)) (first_cases taken new row f)),
  );
  ordered = λ row other p.
      ⊎_elim (λ l. precedes_longer taken new row other (k.ordered row other l))
      (λ r. precedes_last taken new row other r.0 (is_among taken row ((k.firsts row).0 r.1)))
      (precedes_cases kept new row other p);
  same_tests = λ row. tests_more kept new row ∙ ap (λ (b : Bool). b || bytes_eq (identity row) (identity new)) (k.same_tests row) ∙ sym (tests_more taken new row);
}
  where
    absent : has_row taken new ≡ false
    absent = sym (k.same_tests new) ∙ none

keeps_old : (taken kept : List PlainRow) (new : PlainRow) → Keeps taken kept → has_row kept new ≡ true → Keeps (taken ++ new ∷ []) kept
keeps_old taken kept new k there = record {
  distinct = k.distinct;
  firsts = λ row. (
    (λ c. first_longer taken new row ((k.firsts row).0 c)),
    (λ f. ⊎_elim (λ l. (k.firsts row).1 l) (λ r. absurd (let clash : true ≡ false = sym present ∙ r.1 in cc)) (first_cases taken new row f)),
  );
  ordered = λ row other p. precedes_longer taken new row other (k.ordered row other p);
  same_tests = λ row. k.same_tests row ∙ sym (tests_more taken new row ∙ or_known (has_row taken row) (bytes_eq (identity row) (identity new)) (known row));
}
  where
    present : has_row taken new ≡ true
    present = sym (k.same_tests new) ∙ there

    known : (row : PlainRow) → bytes_eq (identity row) (identity new) ≡ true → has_row taken row ≡ true
    known row t =
        let same : identity row ≡ identity new = (bytes_eq-Decides (identity row) (identity new)).0 t in
        ap (λ (key : List ℕ). list_any (λ other. bytes_eq key (identity other)) taken) same ∙ present

keeps_next : (taken kept : List PlainRow) (new : PlainRow) (b : Bool) → has_row kept new ≡ b → Keeps taken kept → Keeps (taken ++ new ∷ []) (if b then kept else kept ++ new ∷ [])
keeps_next taken kept new true e k = keeps_old taken kept new k e
keeps_next taken kept new false e k = keeps_new taken kept new k e

keeps_all : (rows taken kept : List PlainRow) → Keeps taken kept → Keeps (taken ++ rows) (fold with_row kept rows)
keeps_all [] taken kept k = rw append-nil k
keeps_all (row ∷ rows) taken kept k =
    let next : Keeps (taken ++ row ∷ []) (with_row kept row) = keeps_next taken kept row (has_row kept row) refl k in
    rw append_assoc at (keeps_all rows (taken ++ row ∷ []) (with_row kept row) next)

keeps : (rows : List PlainRow) → Keeps rows (without_repeats rows)
unfolding without_repeats
keeps rows = keeps_all rows [] [] keeps_none

pub kept_distinct : (rows : List PlainRow) → AreDistinct (without_repeats rows)
kept_distinct rows = (keeps rows).distinct

pub kept_firsts : (rows : List PlainRow) (row : PlainRow) → Contains (without_repeats rows) row ↔ IsFirst rows row
kept_firsts rows = (keeps rows).firsts

pub kept_ordered : (rows : List PlainRow) (row other : PlainRow) → Precedes (without_repeats rows) row other → Precedes rows row other
kept_ordered rows = (keeps rows).ordered

-- rows that are alike have one identity
one_identity : (row other : PlainRow) → AreAlike row other → identity row ≡ identity other
unfolding identity
one_identity row other h = rw (h.owner, h.rtype, h.rdata) refl

pub alike_are_same : (rows : List PlainRow) (row other : PlainRow) → AreDistinct rows → Contains rows row → Contains rows other → AreAlike row other → row ≡ other
alike_are_same rows row other distinct c d alike = by_order (nat_lt c.0 d.0) refl
  where
    is_other : get_or rows d.0 row ≡ other
    is_other = get_or_default rows d.0 row other d.1 ∙ d.2

    same : identity (get_or rows c.0 row) ≡ identity (get_or rows d.0 row)
    same = ap identity c.2 ∙ one_identity row other alike ∙ sym (ap identity is_other)

    by_later : (b : Bool) → nat_lt d.0 c.0 ≡ b → d.0 ≤ c.0 → row ≡ other
    by_later true e h = absurd (distinct d.0 c.0 row (ltb-true _ _ e) c.1 (sym same))
    by_later false e h =
        let ge : c.0 ≤ d.0 = ltb-false _ _ e in
        let place : c.0 ≡ d.0 = omega (arith, ge, h) in
        sym c.2 ∙ ap (λ (k : ℕ). get_or rows k row) place ∙ is_other

    by_order : (b : Bool) → nat_lt c.0 d.0 ≡ b → row ≡ other
    by_order true e = absurd (distinct c.0 d.0 row (ltb-true _ _ e) d.1 same)
    by_order false e = by_later (nat_lt d.0 c.0) refl (ltb-false _ _ e)

-- the zone after a transfer
abbrev made : List (List ℕ) → Result Soa ApplyFault → Result (List PlainRow) ApplyFault → Result PlainZone ApplyFault
made origin newer fewer = do
  soa ← newer
  rows ← fewer
  Ok (record { origin = origin; content = Some (record { soa = soa; rows = rows }) })

made_distinct : (origin : List (List ℕ)) (newer : Result Soa ApplyFault) (fewer : Result (List PlainRow) ApplyFault) (after : PlainZone) → ((rows : List PlainRow) → fewer ≡ Ok rows → AreDistinct rows) → made origin newer fewer ≡ Ok after → HasDistinctRows after
made_distinct origin (Ok soa) (Ok rows) after each e =
    let zone : PlainZone = record { origin = origin; content = Some (record { soa = soa; rows = rows }) } in
    let same : zone ≡ after = cc in
    subst HasDistinctRows same (each rows refl)
made_distinct origin (Ok soa) (Err fault) after each e = absurd cc
made_distinct origin (Err fault) fewer after each e = absurd cc

chosen : (b : Bool) (kept rows : List PlainRow) (fault : ApplyFault) → AreDistinct kept → (if b then Ok kept else Err fault) ≡ Ok rows → AreDistinct rows
chosen true kept rows fault distinct e = let same : kept ≡ rows = cc in subst AreDistinct same distinct
chosen false kept rows fault distinct e = absurd cc

pub whole_distinct : (zone after : PlainZone) (soa : Soa) (rows : List PlainRow) → apply_outcome zone (Whole soa rows) ≡ Ok after → HasDistinctRows after
unfolding apply_outcome_within
whole_distinct zone after soa rows e =
    made_distinct zone.origin (newer_soa zone.content soa) (fewer_rows ROW_LIMIT (without_repeats rows)) after
    (λ kept h. chosen _ (without_repeats rows) kept _ (kept_distinct rows) h) e
