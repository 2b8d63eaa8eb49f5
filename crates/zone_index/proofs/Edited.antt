-- The rows of a zone, and what stands at their places, when a row comes or goes.
use Rattle.std.proofs.Common.{◌≡◌, ◌≢◌, ℕ, zero, suc, ◌+◌, Bool, true, false, not, cond, Option, Some, None, List, [], ◌∷◌, ◌++◌, map, get_or, refl, sym, ap, subst, ◌∙◌, arith, true≢false, option_map}
use Rattle.std.specs.Prelude.{filter, AllPairs, if◌then◌else◌}
use Rattle.std.specs.List.{AllByRecursion, find}
use Rattle.std.specs.Option.{is_some}
use Rattle.std.specs.Str.{bytes_eq}
use Rattle.std.proofs.lemmas.Bool.{eqb-true}
use Rattle.std.proofs.lemmas.Slice.Eq.{bytes_eq-Decides}
use Rattle.std.proofs.lemmas.List.{map-append, length-map}
use Rattle.std.proofs.lemmas.List.Elements.{All-push, All-filter}
use Rattle.std.proofs.lemmas.List.Quantifiers.{all_pairs_push}
use Rattle.std.proofs.lemmas.List.Kept.{AllPairs-filter}
use Rattle.dns_record.specs.Row.{PlainRow, IsRow, identity}
use Rattle.dns_name.specs.Labels.{name_octets}
use Rattle.dns_name.proofs.WireLemmas.{labels_in-octets, IsWire-octets}
use Rattle.packed_lists.specs.Blocks.{PlainRowList, with_row, without_row as list_without}
use Rattle.packed_lists.specs.Stored.{PlainStored, NumbersRise, has_number, row_of_number, without_number}
use Rattle.packed_lists.proofs.Joined.{rise_more, rise_without}
use Rattle.zone_index.specs.Places.{AreRanked, PlainPlaces, entry_at}
use Rattle.zone_index.specs.declared.place.Place.{Place}
use Rattle.zone_rows.specs.Distinct.{AreDistinct}
use Rattle.zone_rows.specs.Repeats.{has_row}
use Rattle.zone_rows.specs.Steps.{without_row}
use Rattle.zone_rows.specs.Stored.{IsStored, plain_row}
use Rattle.zone_rows.proofs.Firsts.{none_has}
use Rattle.zone_index.specs.Placed.{IsIndexed, IsPlace, PlainIndexed, entry_for, is_same_place, number_among, numbers_of, other_numbers, put_at, row_place, rows_by, stored_at}
use Rattle.zone_index.proofs.Numbered.{AreAlikeByIdentity, all_are_found, alike_place, all_recursion, found_at, found_is, found_passes, has_found, has_it, number_of, numbers, stored_by, without_found}
use Rattle.zone_index.proofs.Placing.{more_apart, more_here, placed, settled, stored_less}
use Rattle.zone_index.proofs.Ties.{NameLaws}

one_same : {X : Type 0} (x y : X) → Some x ≡ Some y → x ≡ y
one_same x y e = cc e

numbers_in : (place : Place) (some : List PlainStored) → numbers_of (entry_for place some) ≡ numbers some
numbers_in place [] = refl
numbers_in place (s ∷ some) = refl

is_some_map : (found : Option PlainStored) → is_some (option_map (λ s. s.number) found) ≡ is_some found
is_some_map None = refl
is_some_map (Some s) = refl

others_by : (n : ℕ) (s : PlainStored) (some : List PlainStored) (ns : List ℕ) (b : Bool) → ns ≡ numbers (without_number n some)
    → cond (not b) (s.number ∷ ns) ns ≡ numbers (cond (not b) (s ∷ without_number n some) (without_number n some))
others_by n s some ns true e = e
others_by n s some ns false e = ap (λ (l : List ℕ). s.number ∷ l) e

other_numbers_are : (n : ℕ) (some : List PlainStored) → other_numbers n (numbers some) ≡ numbers (without_number n some)
other_numbers_are n [] = refl
other_numbers_are n (s ∷ some) = others_by n s some (other_numbers n (numbers some)) (has_number n s) (other_numbers_are n some)

passes_by : {X : Type 0} (p : X → Bool) (x : X) (rest : List X) (b : Bool) → p x ≡ b → AllByRecursion (λ x. p x ≡ true) rest → AllByRecursion (λ x. p x ≡ true) (cond b (x ∷ rest) rest)
passes_by p x rest true e all = (e, all)
passes_by p x rest false e all = all

all_pass : {X : Type 0} (p : X → Bool) (xs : List X) → AllByRecursion (λ x. p x ≡ true) (filter p xs)
all_pass p [] = tt
all_pass p (x ∷ xs) = passes_by p x (filter p xs) (p x) refl (all_pass p xs)

both_hold : {X : Type 0} (P Q S : X → Type 0) → ((x : X) → P x → Q x → S x) → (xs : List X) → AllByRecursion P xs → AllByRecursion Q xs → AllByRecursion S xs
both_hold P Q S f [] p q = tt
both_hold P Q S f (x ∷ xs) p q = (f x p.0 q.0, both_hold P Q S f xs p.1 q.1)

untouched : (n : ℕ) (some : List PlainStored) → AllByRecursion (λ t. has_number n t ≡ false) some → without_number n some ≡ some
untouched n [] none = refl
untouched n (t ∷ some) none = ap (λ (b : Bool). cond (not b) (t ∷ without_number n some) (without_number n some)) none.0 ∙ ap (λ (l : List PlainStored). t ∷ l) (untouched n some none.1)

got_plain : (rows : List PlainStored) (k : ℕ) (d : PlainStored) → get_or (map plain_row rows) k (plain_row d) ≡ plain_row (get_or rows k d)
got_plain [] k d = refl
got_plain (s ∷ rows) zero d = refl
got_plain (s ∷ rows) (suc k) d = got_plain rows k d

pairs_of : (rows : List PlainStored) → AreDistinct (map plain_row rows) → AllPairs (λ t u. identity (plain_row t) ≢ identity (plain_row u)) rows
pairs_of rows distinct i j d lt within =
    subst (λ (t : PlainRow). identity t ≢ identity (plain_row (get_or rows j d))) (got_plain rows i d)
    (subst (λ (u : PlainRow). identity (get_or (map plain_row rows) i (plain_row d)) ≢ identity u) (got_plain rows j d)
    (distinct i j (plain_row d) lt (omega (arith, within, length-map rows plain_row))))

module _ (laws : NameLaws) (alike : AreAlikeByIdentity) (origin : List (List ℕ)) (rows : List PlainStored) (next : ℕ) (places : PlainPlaces)
    (rise : NumbersRise 0 rows next) (is : IsIndexed origin rows places) (ranked : AreRanked places)
    (row : PlainRow) (is_row : IsRow row) (place : Place) (at : place ≡ row_place origin row) where
  is_place : IsPlace place
  is_place = subst IsPlace (sym at) (placed laws origin row is_row)

  numbers_here : numbers_of (entry_at places place) ≡ numbers (stored_at origin rows place)
  numbers_here = ap numbers_of (is.index place is_place) ∙ numbers_in place (stored_at origin rows place)

  -- the number is that of the row of the identity
  pub number_is : (found : Option ℕ) → found ≡ number_among (identity row) rows (numbers_of (entry_at places place)) → found ≡ option_map (λ s. s.number) (find (has_it alike origin row is_row) rows)
  number_is found e =
      e
      ∙ ap (number_among (identity row) rows) numbers_here
      ∙ ap (λ (p : Place). number_among (identity row) rows (numbers (stored_at origin rows p))) at
      ∙ number_of alike origin row is_row next rows (all_recursion IsStored rows is.stored) rise

  pub has_number_if : (found : Option ℕ) → found ≡ number_among (identity row) rows (numbers_of (entry_at places place)) → has_row (map plain_row rows) row ≡ is_some found
  has_number_if found e = has_found row rows ∙ sym (ap is_some (number_is found e) ∙ is_some_map (find (has_it alike origin row is_row) rows))

  -- ---- one more

  module _ (s : PlainStored) (its_row : plain_row s ≡ row) (its_number : s.number ≡ next) (stored : IsStored s) where
    abbrev more : List PlainStored
    more = rows ++ s ∷ []

    abbrev more_numbers : List ℕ
    more_numbers = numbers_of (entry_at places place) ++ next ∷ []

    its_place : place ≡ row_place origin (plain_row s)
    its_place = at ∙ ap (row_place origin) (sym its_row)

    more_rise : NumbersRise 0 more (s.number + 1)
    more_rise = rise_more 0 next rows s rise (omega (arith, its_number))

    more_are : more_numbers ≡ numbers (stored_at origin more place)
    more_are =
        ap (λ (ns : List ℕ). ns ++ next ∷ []) numbers_here
        ∙ ap (λ (n : ℕ). numbers (stored_at origin rows place) ++ n ∷ []) (sym its_number)
        ∙ sym (ap numbers (more_here origin rows s place its_place) ∙ map-append (λ r. r.number) (stored_at origin rows place) (s ∷ []))

    more_by : rows_by more_numbers more ≡ stored_at origin more place
    more_by = ap (λ (ns : List ℕ). rows_by ns more) more_are ∙ stored_by origin (s.number + 1) more place more_rise

    pub added_numbers : more_numbers ≡ numbers (rows_by more_numbers more)
    added_numbers = more_are ∙ ap numbers (sym more_by)

    pub added_indexed : has_row (map plain_row rows) row ≡ false → IsIndexed origin more (put_at places place (entry_for place (rows_by more_numbers more)))
    added_indexed none = record {
      stored = All-push IsStored rows s is.stored stored;
      distinct = subst AreDistinct (sym (map-append plain_row rows (s ∷ [])))
          (subst (λ (r : PlainRow). AreDistinct (map plain_row rows ++ r ∷ [])) (sym its_row)
          (all_pairs_push (λ one other. identity one ≢ identity other) (map plain_row rows) row is.distinct (λ i d h. none_has (map plain_row rows) row d none i h)));
      index = settled laws origin rows more places place (entry_for place (rows_by more_numbers more)) is_place is.index ranked (λ q h. more_apart origin rows s place q its_place h) (ap (entry_for place) more_by);
    }

  -- ---- one less

  module _ (s : PlainStored) (found : find (has_it alike origin row is_row) rows ≡ Some s) where
    abbrev fewer : List PlainStored
    fewer = without_number s.number rows

    abbrev fewer_numbers : List ℕ
    fewer_numbers = other_numbers s.number (numbers_of (entry_at places place))

    fewer_are : fewer_numbers ≡ numbers (stored_at origin fewer place)
    fewer_are =
        ap (other_numbers s.number) numbers_here
        ∙ other_numbers_are s.number (stored_at origin rows place)
        ∙ ap numbers (sym (stored_less origin s.number rows place))

    fewer_by : rows_by fewer_numbers fewer ≡ stored_at origin fewer place
    fewer_by = ap (λ (ns : List ℕ). rows_by ns fewer) fewer_are ∙ stored_by origin next fewer place (rise_without s.number 0 next rows rise)

    pub removed_numbers : fewer_numbers ≡ numbers (rows_by fewer_numbers fewer)
    removed_numbers = fewer_are ∙ ap numbers (sym fewer_by)

    -- the row is found by its number, and stands at the place
    by_number : row_of_number s.number rows ≡ Some s
    by_number = found_is (λ t. row_of_number t.number rows ≡ Some t) (has_it alike origin row is_row) rows s (all_are_found next rows rise) found

    its_own_place : place ≡ row_place origin (plain_row s)
    its_own_place =
        at
        ∙ alike_place origin row (plain_row s)
        (alike row (plain_row s) is_row (found_is IsStored (has_it alike origin row is_row) rows s (all_recursion IsStored rows is.stored) found).is_row
        ((bytes_eq-Decides (identity row) (identity (plain_row s))).0 (found_passes (has_it alike origin row is_row) rows s found)))

    apart_by : (q : Place) (t : PlainStored) → is_same_place q place ≡ false → row_of_number t.number rows ≡ Some t → is_same_place q (row_place origin (plain_row t)) ≡ true → (b : Bool) → has_number s.number t ≡ b → b ≡ false
    apart_by q t other t_found t_at true e =
        let same_number : t.number ≡ s.number = eqb-true t.number s.number e in
        let both : Some t ≡ Some s = sym t_found ∙ ap (λ (n : ℕ). row_of_number n rows) same_number ∙ by_number in
        let same : t ≡ s = one_same t s both in
        let there : is_same_place q (row_place origin (plain_row s)) ≡ true = subst (λ (u : PlainStored). is_same_place q (row_place origin (plain_row u)) ≡ true) same t_at in
        absurd (true≢false (sym there ∙ ap (is_same_place q) (sym its_own_place) ∙ other))
    apart_by q t other t_found t_at false e = refl

    -- at another place nothing changes
    others_stay : (q : Place) → is_same_place q place ≡ false → stored_at origin fewer q ≡ stored_at origin rows q
    others_stay q other =
        stored_less origin s.number rows q
        ∙ untouched s.number (stored_at origin rows q)
        (both_hold (λ t. row_of_number t.number rows ≡ Some t) (λ t. is_same_place q (row_place origin (plain_row t)) ≡ true) (λ t. has_number s.number t ≡ false)
        (λ t f h. apart_by q t other f h (has_number s.number t) refl) (stored_at origin rows q) (found_at origin next rows q rise)
        (all_pass (λ t. is_same_place q (row_place origin (plain_row t))) rows))

    pub removed_rows : map plain_row fewer ≡ without_row (map plain_row rows) row
    removed_rows = without_found row next rows s rise (pairs_of rows is.distinct) found

    pub removed_indexed : IsIndexed origin fewer (put_at places place (entry_for place (rows_by fewer_numbers fewer)))
    removed_indexed = record {
      stored = All-filter (λ r. not (has_number s.number r)) IsStored rows is.stored;
      distinct = subst AreDistinct (sym removed_rows) (AllPairs-filter (λ one other. identity one ≢ identity other) (λ other. not (bytes_eq (identity row) (identity other))) (map plain_row rows) is.distinct);
      index = settled laws origin rows fewer places place (entry_for place (rows_by fewer_numbers fewer)) is_place is.index ranked others_stay (ap (entry_for place) fewer_by);
    }

-- ---- what `IndexedRows` wants of it

-- the row as it is stored
abbrev pub stored_row : ℕ → PlainRow → PlainStored
stored_row number row = record { number = number; owner = name_octets row.owner; rtype = row.rtype; ttl = row.ttl; rdata = row.rdata }

its_plain_row : (number : ℕ) (row : PlainRow) → IsRow row → plain_row (stored_row number row) ≡ row
its_plain_row number row is = λ i. record { owner = labels_in-octets (name_octets row.owner) row.owner refl is.is_owner i; rtype = row.rtype; ttl = row.ttl; rdata = row.rdata }

it_is_stored : (number : ℕ) (row : PlainRow) → IsRow row → IsStored (stored_row number row)
it_is_stored number row is = record { is_wire = IsWire-octets (name_octets row.owner) row.owner refl is.is_owner; is_row = subst IsRow (sym (its_plain_row number row is)) is }

-- the rows of a zone, and a row that stands at a place
pub record Editing (origin : List (List ℕ)) (list : PlainRowList) (places : PlainPlaces) (row : PlainRow) (place : Place) (value : PlainIndexed) : Type 0 where
  pub laws : NameLaws
  pub alike : AreAlikeByIdentity
  pub rise : NumbersRise 0 list.rows list.next
  pub is : IsIndexed origin list.rows places
  pub ranked : AreRanked places
  pub is_row : IsRow row
  pub at : place ≡ row_place value.origin row
  pub view : record { origin = origin; rows = map plain_row list.rows } ≡ value

module _ (origin : List (List ℕ)) (list : PlainRowList) (places : PlainPlaces) (row : PlainRow) (place : Place) (value : PlainIndexed) (e : Editing origin list places row place value) where
  abbrev numbers_before : List ℕ
  numbers_before = numbers_of (entry_at places place)

  its_place_is : place ≡ row_place origin row
  its_place_is = e.at ∙ ap (λ (v : PlainIndexed). row_place v.origin row) (sym e.view)

  has_if : (found : Option ℕ) → found ≡ number_among (identity row) list.rows numbers_before → has_row (map plain_row list.rows) row ≡ is_some found
  has_if = has_number_if e.laws e.alike origin list.rows list.next places e.rise e.is e.ranked row e.is_row place its_place_is

  abbrev with_or_not : Bool → PlainIndexed → PlainIndexed × Bool
  with_or_not b v = if b then (v, false) else (record v { rows = v.rows ++ row ∷ [] }, true)

  pub with_none : (found : Option ℕ) → found ≡ number_among (identity row) list.rows numbers_before → is_some found ≡ true → (value, false) ≡ with_or_not (has_row value.rows row) value
  with_none found f h = sym (ap (λ (b : Bool). with_or_not b value) (ap (λ (v : PlainIndexed). has_row v.rows row) (sym e.view) ∙ has_if found f ∙ h))

  pub with_numbers : numbers_before ++ list.next ∷ [] ≡ numbers (rows_by (numbers_before ++ list.next ∷ []) (list.rows ++ stored_row list.next row ∷ []))
  with_numbers =
      added_numbers e.laws e.alike origin list.rows list.next places e.rise e.is e.ranked row e.is_row place its_place_is
      (stored_row list.next row) (its_plain_row list.next row e.is_row) refl (it_is_stored list.next row e.is_row)

  pub with_indexed : (found : Option ℕ) (new : PlainRowList) (index : PlainPlaces) → found ≡ number_among (identity row) list.rows numbers_before → is_some found ≡ false
      → new ≡ with_row list (name_octets row.owner) row.rtype row.ttl row.rdata
      → index ≡ put_at places place (entry_for place (rows_by (numbers_before ++ list.next ∷ []) new.rows)) → IsIndexed origin new.rows index
  with_indexed found new index f h is_new is_index =
      let made = added_indexed e.laws e.alike origin list.rows list.next places e.rise e.is e.ranked row e.is_row place its_place_is
      (stored_row list.next row) (its_plain_row list.next row e.is_row) refl (it_is_stored list.next row e.is_row) (has_if found f ∙ h) in
      subst (λ (i : PlainPlaces). IsIndexed origin new.rows i) (sym is_index)
      (subst (λ (l : PlainRowList). IsIndexed origin l.rows (put_at places place (entry_for place (rows_by (numbers_before ++ list.next ∷ []) l.rows)))) (sym is_new) made)

  pub with_some : (found : Option ℕ) (new : PlainRowList) → found ≡ number_among (identity row) list.rows numbers_before → is_some found ≡ false
      → new ≡ with_row list (name_octets row.owner) row.rtype row.ttl row.rdata
      → (record { origin = origin; rows = map plain_row new.rows }, true) ≡ with_or_not (has_row value.rows row) value
  with_some found new f h is_new =
      let one_more : map plain_row new.rows ≡ map plain_row list.rows ++ row ∷ [] =
      ap (λ (l : PlainRowList). map plain_row l.rows) is_new
      ∙ map-append plain_row list.rows (stored_row list.next row ∷ [])
      ∙ ap (λ (r : PlainRow). map plain_row list.rows ++ r ∷ []) (its_plain_row list.next row e.is_row) in
      ap (λ (rows : List PlainRow). (record { origin = origin; rows = rows }, true)) one_more
      ∙ sym (ap (λ (b : Bool). with_or_not b (record { origin = origin; rows = map plain_row list.rows })) (has_if found f ∙ h))
      ∙ ap (λ (v : PlainIndexed). with_or_not (has_row v.rows row) v) e.view

  -- ---- one less

  abbrev without_or_not : Bool → PlainIndexed → PlainIndexed × Bool
  without_or_not b v = if b then (record v { rows = without_row v.rows row }, true) else (v, false)

  pub without_none : (found : Option ℕ) → found ≡ number_among (identity row) list.rows numbers_before → found ≡ None → (value, false) ≡ without_or_not (has_row value.rows row) value
  without_none found f h = sym (ap (λ (b : Bool). without_or_not b value) (ap (λ (v : PlainIndexed). has_row v.rows row) (sym e.view) ∙ has_if found f ∙ ap is_some h))

  -- the row that was found
  record IsIt (number : ℕ) : Type 0 where
    it : PlainStored
    found : find (has_it e.alike origin row e.is_row) list.rows ≡ Some it
    its_number : it.number ≡ number

  it_by : (number : ℕ) (found : Option PlainStored) → find (has_it e.alike origin row e.is_row) list.rows ≡ found → Some number ≡ option_map (λ s. s.number) found → IsIt number
  it_by number None is h = cc h
  it_by number (Some s) is h = record { it = s; found = is; its_number = sym (one_same number s.number h) }

  it_is : (number : ℕ) (found : Option ℕ) → found ≡ number_among (identity row) list.rows numbers_before → found ≡ Some number → IsIt number
  it_is number found f h =
      it_by number (find (has_it e.alike origin row e.is_row) list.rows) refl
      (sym h ∙ number_is e.laws e.alike origin list.rows list.next places e.rise e.is e.ranked row e.is_row place its_place_is found f)

  pub without_numbers : (number : ℕ) (found : Option ℕ) → found ≡ number_among (identity row) list.rows numbers_before → found ≡ Some number
      → other_numbers number numbers_before ≡ numbers (rows_by (other_numbers number numbers_before) (without_number number list.rows))
  without_numbers number found f h =
      let i = it_is number found f h in
      subst (λ (n : ℕ). other_numbers n numbers_before ≡ numbers (rows_by (other_numbers n numbers_before) (without_number n list.rows))) i.its_number
      (removed_numbers e.laws e.alike origin list.rows list.next places e.rise e.is e.ranked row e.is_row place its_place_is i.it i.found)

  pub without_indexed : (number : ℕ) (found : Option ℕ) (new : PlainRowList) (index : PlainPlaces) → found ≡ number_among (identity row) list.rows numbers_before → found ≡ Some number
      → new ≡ list_without number list
      → index ≡ put_at places place (entry_for place (rows_by (other_numbers number numbers_before) new.rows)) → IsIndexed origin new.rows index
  without_indexed number found new index f h is_new is_index =
      let i = it_is number found f h in
      let made = subst (λ (n : ℕ). IsIndexed origin (without_number n list.rows) (put_at places place (entry_for place (rows_by (other_numbers n numbers_before) (without_number n list.rows))))) i.its_number
      (removed_indexed e.laws e.alike origin list.rows list.next places e.rise e.is e.ranked row e.is_row place its_place_is i.it i.found) in
      subst (λ (p : PlainPlaces). IsIndexed origin new.rows p) (sym is_index)
      (subst (λ (l : PlainRowList). IsIndexed origin l.rows (put_at places place (entry_for place (rows_by (other_numbers number numbers_before) l.rows)))) (sym is_new) made)

  pub without_some : (number : ℕ) (found : Option ℕ) (new : PlainRowList) → found ≡ number_among (identity row) list.rows numbers_before → found ≡ Some number → new ≡ list_without number list
      → (record { origin = origin; rows = map plain_row new.rows }, true) ≡ without_or_not (has_row value.rows row) value
  without_some number found new f h is_new =
      let i = it_is number found f h in
      let one_less : map plain_row new.rows ≡ without_row (map plain_row list.rows) row =
      ap (λ (l : PlainRowList). map plain_row l.rows) is_new
      ∙ ap (λ (n : ℕ). map plain_row (without_number n list.rows)) (sym i.its_number)
      ∙ removed_rows e.laws e.alike origin list.rows list.next places e.rise e.is e.ranked row e.is_row place its_place_is i.it i.found in
      ap (λ (rows : List PlainRow). (record { origin = origin; rows = rows }, true)) one_less
      ∙ sym (ap (λ (b : Bool). without_or_not b (record { origin = origin; rows = map plain_row list.rows })) (has_if found f ∙ ap is_some h))
      ∙ ap (λ (v : PlainIndexed). without_or_not (has_row v.rows row) v) e.view

pub none_if : (found : Option ℕ) → ((number : ℕ) → found ≡ Some number → ⊥) → found ≡ None
none_if None h = refl
none_if (Some number) h = absurd (h number refl)
