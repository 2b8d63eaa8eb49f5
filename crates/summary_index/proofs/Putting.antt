-- What zones stand at triggers once some are put at one of them.
use Rattle.std.proofs.Common.{◌≡◌, ℕ, ◌==◌, Bool, true, false, cond, Some, None, List, [], ◌∷◌, refl, sym, ap, ◌∙◌}
use Rattle.std.specs.BTreeMap.{insert_entry, is_at}
use Rattle.std.specs.Cmp.{IsTotalOrder, on_total}
use Rattle.std.specs.List.{AllByRecursion}
use Rattle.std.specs.List.Sorted.{IsStrictlySortedBy}
use Rattle.std.specs.Map.{keys_of, lookup, remove_entry}
use Rattle.std.specs.declared.cmp.Ordering.{Ordering}
use Rattle.std.proofs.lemmas.Bool.{eqb-true}
use Rattle.qname_index.specs.Best.{pattern_order}
use Rattle.qname_index.proofs.Rank.{rank_of, rank_total}
use Rattle.summary_index.specs.Summary.{Standing, put_zones, zones_at, zones_in}
use Rattle.trie_keys.proofs.ByKey.{apart_from, at_itself, lookup-insert_entry, lookup-remove_entry, ordered-others}

pub pattern_total : IsTotalOrder pattern_order
pattern_total = on_total rank_of rank_total

module _ {K X : Type 0} {order : K → K → Ordering} (total : IsTotalOrder order) where
  pub none_found : (k : K) (es : List (K × X)) → AllByRecursion (λ y. is_at (order k) y ≡ false) (keys_of es) → lookup (is_at (order k)) es ≡ None
  none_found k [] none = refl
  none_found k (e ∷ es) none = ap (λ (b : Bool). cond b (Some e.1) (lookup (is_at (order k)) es)) none.0 ∙ none_found k es none.1

  pub gone : (k : K) (es : List (K × X)) → IsStrictlySortedBy order (keys_of es) → lookup (is_at (order k)) (remove_entry (is_at (order k)) es) ≡ None
  gone k [] sorted = refl
  gone k (e ∷ es) sorted =
      elim (is_at (order k) e.0) as (λ b. is_at (order k) e.0 ≡ b → lookup (is_at (order k)) (cond b es (e ∷ remove_entry (is_at (order k)) es)) ≡ None) [
        | true ↦ λ h. none_found k es (apart_from total k e es h sorted)
        | false ↦ λ h. ap (λ (b : Bool). cond b (Some e.1) (lookup (is_at (order k)) (remove_entry (is_at (order k)) es))) h ∙ gone k es (ordered-others total e es sorted)
      ] refl

module _ {K : Type 0} {order : K → K → Ordering} (total : IsTotalOrder order) where
  here_by : (b : Bool) (key : K) (zones : ℕ) (es : List (K × Standing)) → (zones == 0) ≡ b → IsStrictlySortedBy order (keys_of es)
      → zones_at order key (cond b (remove_entry (is_at (order key)) es) (insert_entry order es key (record { value = zones; mark = true }))) ≡ zones
  here_by true key zones es h sorted = ap zones_in (gone total key es sorted) ∙ sym (eqb-true zones 0 h)
  here_by false key zones es h sorted =
      ap zones_in (lookup-insert_entry total key key (record { value = zones; mark = true }) es)
      ∙ ap (λ (b : Bool). zones_in (cond b (Some (record { value = zones; mark = true })) (lookup (is_at (order key)) es))) (at_itself total key)

  -- these zones stand there
  pub put_here : (key : K) (zones : ℕ) (es : List (K × Standing)) → IsStrictlySortedBy order (keys_of es) → zones_at order key (put_zones order key zones es) ≡ zones
  put_here key zones es sorted = here_by (zones == 0) key zones es refl sorted

  apart_by : (b : Bool) (q key : K) (zones : ℕ) (es : List (K × Standing)) → is_at (order q) key ≡ false
      → zones_at order q (cond b (remove_entry (is_at (order key)) es) (insert_entry order es key (record { value = zones; mark = true }))) ≡ zones_at order q es
  apart_by true q key zones es h = ap zones_in (lookup-remove_entry total q key es h)
  apart_by false q key zones es h =
      ap zones_in (lookup-insert_entry total q key (record { value = zones; mark = true }) es)
      ∙ ap (λ (b : Bool). zones_in (cond b (Some (record { value = zones; mark = true })) (lookup (is_at (order q)) es))) h

  -- and elsewhere what stood there
  pub put_elsewhere : (q key : K) (zones : ℕ) (es : List (K × Standing)) → is_at (order q) key ≡ false → zones_at order q (put_zones order key zones es) ≡ zones_at order q es
  put_elsewhere q key zones es h = apart_by (zones == 0) q key zones es h
