-- A row that is put to its place in an ordered map from types and data to rows.
use Rattle.std.proofs.Common.{◌≡◌, ℕ, Option, Some, None, List, [], ◌∷◌, map, refl, sym, ap, subst, ◌∙◌, cond, is_eq, nat_cmp}
use Rattle.std.specs.Cmp.Lexicographic.{slice_cmp, bytes_decides, nat_list_cmp_total}
use Rattle.std.specs.List.{AllByRecursion}
use Rattle.std.specs.List.Sorted.{IsStrictlySortedBy}
use Rattle.std.specs.Map.{keys_of, lookup}
use Rattle.std.specs.BTreeMap.{insert_entry, is_at}
use Rattle.std.specs.Option.{option_map}
use Rattle.std.specs.Ordering.{match_ordering, is_lt}
use Rattle.std.specs.Prelude.{Bool, true, false, if◌then◌else◌}
use Rattle.std.proofs.lemmas.Map.Text.{is_eq-slice_cmp}
use Rattle.std.specs.declared.cmp.Ordering.{Ordering}
use Rattle.std.specs.declared.cmp.Ordering.TheVariants.{Less, Equal, Greater}
use Rattle.dns_name.specs.Order.{canonical_order}
use Rattle.dns_record.specs.Row.{PlainRow}
use Rattle.action_codec.specs.Local.{data_key, first_owned, row_to_keep, insert_row}

module _ {K V : Type 0} (key : K → List ℕ) (row : V → PlainRow) where
  abbrev pub by_key : K → K → Ordering
  by_key x y = slice_cmp nat_cmp (key x) (key y)

  -- a row stands by its type and data
  abbrev pub Keyed : K × V → Type 0
  Keyed e = key e.0 ≡ data_key (row e.1)

  abbrev pub rows_of : List (K × V) → List PlainRow
  rows_of es = map (λ e. row e.1) es

  abbrev pub found : K → List (K × V) → Option V
  found k es = lookup (is_at (by_key k)) es

  -- the rows after a row was put in, and each stands by its type and data still
  pub record HasPlaced (k : K) (v w : V) (es : List (K × V)) : Type 0 where
    pub rows : rows_of (insert_entry by_key es k w) ≡ insert_row (row v) (rows_of es)
    pub keyed : AllByRecursion Keyed (insert_entry by_key es k w)

  none_behind : (k : K) (e : K × V) (es : List (K × V)) → by_key k e.0 ≡ Less → AllByRecursion (λ y. by_key e.0 y ≡ Less) (keys_of es) → found k es ≡ None
  none_behind k e [] lt behind = refl
  none_behind k e (other ∷ es) lt behind =
      let less : by_key k other.0 ≡ Less = nat_list_cmp_total.trans (key k) (key e.0) (key other.0) lt behind.0 in
      ap (λ o. cond (is_eq o) (Some other.1) (found k es)) less ∙ none_behind k e es lt behind.1

  same_order : (k : K) (v : V) (e : K × V) → key k ≡ data_key (row v) → Keyed e → slice_cmp nat_cmp (data_key (row v)) (data_key (row e.1)) ≡ by_key k e.0
  same_order k v e here keyed = λ i. slice_cmp nat_cmp (sym here i) (sym keyed i)

  inserts : (k : K) (w : V) (e : K × V) (es : List (K × V)) (o : Ordering) → by_key k e.0 ≡ o → insert_entry by_key (e ∷ es) k w ≡ match_ordering o ((k, w) ∷ e ∷ es) ((e.0, w) ∷ es) (e ∷ insert_entry by_key es k w)
  inserts k w e es o h = ap (λ o. match_ordering o ((k, w) ∷ e ∷ es) ((e.0, w) ∷ es) (e ∷ insert_entry by_key es k w)) h

  places : (k : K) (v : V) (e : K × V) (es : List (K × V)) (o : Ordering) → key k ≡ data_key (row v) → Keyed e → by_key k e.0 ≡ o
      → insert_row (row v) (rows_of (e ∷ es)) ≡ match_ordering o (row v ∷ rows_of (e ∷ es)) (first_owned (row v) (row e.1) ∷ rows_of es) (row e.1 ∷ insert_row (row v) (rows_of es))
  places k v e es o here keyed h =
      ap (λ o. match_ordering o (row v ∷ rows_of (e ∷ es)) (first_owned (row v) (row e.1) ∷ rows_of es) (row e.1 ∷ insert_row (row v) (rows_of es))) (same_order k v e here keyed ∙ h)

  one_of : (b : Bool) (r other : PlainRow) (bs : List ℕ) → bs ≡ data_key r → bs ≡ data_key other → bs ≡ data_key (if b then r else other)
  one_of true r other bs p q = p
  one_of false r other bs p q = q

  abbrev pub Kept : K → V → V → List (K × V) → Type 0
  Kept k v w es = row w ≡ row_to_keep (row v) (option_map row (found k es))

  before : (k : K) (v w : V) (e : K × V) (es : List (K × V)) → key k ≡ data_key (row v) → AllByRecursion Keyed (e ∷ es) → AllByRecursion (λ y. by_key e.0 y ≡ Less) (keys_of es)
      → Kept k v w (e ∷ es) → by_key k e.0 ≡ Less → HasPlaced k v w (e ∷ es)
  before k v w e es here keyed behind kept h =
      let none : found k (e ∷ es) ≡ None = ap (λ o. cond (is_eq o) (Some e.1) (found k es)) h ∙ none_behind k e es h behind in
      let same : row w ≡ row v = kept ∙ ap (λ f. row_to_keep (row v) (option_map row f)) none in
      record {
        rows = ap rows_of (inserts k w e es Less h) ∙ ap (λ r. r ∷ rows_of (e ∷ es)) same ∙ sym (places k v e es Less here keyed.0 h);
        keyed = subst (AllByRecursion Keyed) (sym (inserts k w e es Less h)) (here ∙ ap data_key (sym same), keyed);
      }

  upon : (k : K) (v w : V) (e : K × V) (es : List (K × V)) → key k ≡ data_key (row v) → AllByRecursion Keyed (e ∷ es) → Kept k v w (e ∷ es) → by_key k e.0 ≡ Equal → HasPlaced k v w (e ∷ es)
  upon k v w e es here keyed kept h =
      let some : found k (e ∷ es) ≡ Some e.1 = ap (λ o. cond (is_eq o) (Some e.1) (found k es)) h in
      let first : row w ≡ first_owned (row v) (row e.1) = kept ∙ ap (λ f. row_to_keep (row v) (option_map row f)) some in
      let same : key k ≡ key e.0 = (bytes_decides (key k) (key e.0)).0 (sym (is_eq-slice_cmp (key k) (key e.0)) ∙ ap is_eq h) in
      let one : key e.0 ≡ data_key (first_owned (row v) (row e.1)) = one_of (is_lt (canonical_order (row v).owner (row e.1).owner)) (row v) (row e.1) (key e.0) (sym same ∙ here) keyed.0 in
      record {
        rows = ap rows_of (inserts k w e es Equal h) ∙ ap (λ r. r ∷ rows_of es) first ∙ sym (places k v e es Equal here keyed.0 h);
        keyed = subst (AllByRecursion Keyed) (sym (inserts k w e es Equal h)) (one ∙ ap data_key (sym first), keyed.1);
      }

  behind : (k : K) (v w : V) (e : K × V) (es : List (K × V)) → key k ≡ data_key (row v) → AllByRecursion Keyed (e ∷ es) → HasPlaced k v w es → by_key k e.0 ≡ Greater → HasPlaced k v w (e ∷ es)
  behind k v w e es here keyed rest h =
      record {
        rows = ap rows_of (inserts k w e es Greater h) ∙ ap (λ rs. row e.1 ∷ rs) rest.rows ∙ sym (places k v e es Greater here keyed.0 h);
        keyed = subst (AllByRecursion Keyed) (sym (inserts k w e es Greater h)) (keyed.0, rest.keyed);
      }

  pub has_placed : (k : K) (v w : V) (es : List (K × V)) → key k ≡ data_key (row v) → AllByRecursion Keyed es → IsStrictlySortedBy by_key (keys_of es) → Kept k v w es → HasPlaced k v w es
  unfolding IsStrictlySortedBy
  has_placed k v w [] here keyed sorted kept = record { rows = ap (λ r. r ∷ []) kept; keyed = (here ∙ ap data_key (sym kept), tt) }
  has_placed k v w (e ∷ es) here keyed sorted kept =
      elim (by_key k e.0) as (λ o. by_key k e.0 ≡ o → HasPlaced k v w (e ∷ es)) [
        | Less ↦ λ h. before k v w e es here keyed sorted.0 kept h
        | Equal ↦ λ h. upon k v w e es here keyed kept h
        | Greater ↦ λ h. behind k v w e es here keyed (has_placed k v w es here keyed.1 sorted.1 (kept ∙ ap (λ o. row_to_keep (row v) (option_map row (cond (is_eq o) (Some e.1) (found k es)))) h)) h
      ] refl
