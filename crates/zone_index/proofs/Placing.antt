-- What stands at each place when a row comes or goes.
use Rattle.std.proofs.Common.{◌≡◌, ℕ, Bool, true, false, not, cond, Option, Some, None, List, [], ◌∷◌, ◌++◌, refl, sym, ap, subst, ◌∙◌, append-nil, true≢false}
use Rattle.std.specs.Prelude.{filter}
use Rattle.std.specs.BTreeMap.{is_at}
use Rattle.std.specs.Cmp.{IsTotalOrder}
use Rattle.std.specs.List.{AllByRecursion}
use Rattle.std.specs.List.Sorted.{IsStrictlySortedBy}
use Rattle.std.specs.Map.{keys_of, lookup, remove_entry}
use Rattle.std.specs.declared.cmp.Ordering.{Ordering}
use Rattle.std.proofs.lemmas.List.Elements.{filter-append}
use Rattle.dns_record.specs.Row.{PlainRow, IsRow}
use Rattle.prefix_index.proofs.Order.{prefix_order_total}
use Rattle.packed_lists.specs.Stored.{PlainStored, has_number, without_number}
use Rattle.trigger_codec.specs.Bases.{IsPattern}
use Rattle.trigger_codec.specs.declared.trigger.Trigger.{Trigger}
use Rattle.trigger_codec.specs.declared.trigger.Trigger.TheVariants.{ClientIp, Qname, ResponseIp, NsDname, NsIp}
use Rattle.zone_index.specs.Entry.{PlainEntry}
use Rattle.zone_index.specs.Places.{AreRanked, PlainPlaces, entry_at, with_entry, without_entry}
use Rattle.zone_index.specs.declared.place.Place.{Place}
use Rattle.zone_index.specs.declared.place.Place.TheVariants.{Rule, Other}
use Rattle.zone_rows.specs.Stored.{plain_row}
use Rattle.zone_index.specs.Placed.{place_by, row_place, is_same_place, stored_at, entry_for, put_at, IsPlace, IsIndexOf}
use Rattle.zone_index.specs.Rules.{live_trigger}
use Rattle.trie_keys.proofs.ByKey.{lookup-insert_entry, lookup-remove_entry, at_itself, apart_from, ordered-others}
use Rattle.trie_keys.proofs.OneList.{none_found}
use Rattle.zone_index.proofs.SameAction.{pattern_order_total}
use Rattle.zone_index.proofs.Ties.{NameLaws, IsTriggerIf, equal_trigger, equal_pattern, named_live, same_itself}

-- ---- places

pub equal_place : NameLaws → (p q : Place) → IsPlace p → IsPlace q → is_same_place p q ≡ true → p ≡ q
equal_place laws (Rule t) (Rule u) is_p is_q h = ap Rule (equal_trigger laws t u is_p is_q h)
equal_place laws (Other p) (Other q) is_p is_q h = ap Other (equal_pattern laws p q is_p is_q h)
equal_place laws p q is_p is_q h = absurd (true≢false (sym h))

pub place_itself : (p : Place) → is_same_place p p ≡ true
place_itself (Rule t) = same_itself t
place_itself (Other p) = at_itself pattern_order_total p

placed_by : (owner : List (List ℕ)) (live : Option Trigger) → IsPattern (record { base = owner; wild = false }) → IsTriggerIf live → IsPlace (place_by owner live)
placed_by owner None is_owner is_live = is_owner
placed_by owner (Some t) is_owner is_live = is_live

-- a row stands at a place
pub placed : NameLaws → (origin : List (List ℕ)) (row : PlainRow) → IsRow row → IsPlace (row_place origin row)
placed laws origin row is =
    placed_by row.owner (live_trigger origin row) (record { is_base = is.is_owner; is_lower_case = is.owner_is_lower_case }) (named_live laws origin row is.is_owner)

-- ---- entries

module _ {K X : Type 0} {R : K → K → Ordering} (o : IsTotalOrder R) where
  gone_by : (q : K) (e : K × X) (es : List (K × X)) (b : Bool) → is_at (R q) e.0 ≡ b → IsStrictlySortedBy R (keys_of (e ∷ es)) → lookup (is_at (R q)) (remove_entry (is_at (R q)) es) ≡ None
      → lookup (is_at (R q)) (cond b es (e ∷ remove_entry (is_at (R q)) es)) ≡ None
  gone_by q e es true h s others = none_found o q es (apart_from o q e es h s)
  gone_by q e es false h s others = ap (λ (b : Bool). cond b (Some e.1) (lookup (is_at (R q)) (remove_entry (is_at (R q)) es))) h ∙ others

  -- what was removed isn't found
  pub lookup-gone : (q : K) (es : List (K × X)) → IsStrictlySortedBy R (keys_of es) → lookup (is_at (R q)) (remove_entry (is_at (R q)) es) ≡ None
  lookup-gone q [] s = refl
  lookup-gone q (e ∷ es) s = gone_by q e es (is_at (R q) e.0) refl s (lookup-gone q es (ordered-others o e es s))

entry_at-with : (places : PlainPlaces) (p q : Place) (e : PlainEntry) → entry_at (with_entry places p e) q ≡ cond (is_same_place q p) (Some e) (entry_at places q)
entry_at-with places (Rule (ClientIp p)) (Rule (ClientIp q)) e = lookup-insert_entry prefix_order_total q p e places.rules.client_ip
entry_at-with places (Rule (Qname p)) (Rule (Qname q)) e = lookup-insert_entry pattern_order_total q p e places.rules.qname
entry_at-with places (Rule (ResponseIp p)) (Rule (ResponseIp q)) e = lookup-insert_entry prefix_order_total q p e places.rules.response_ip
entry_at-with places (Rule (NsDname p)) (Rule (NsDname q)) e = lookup-insert_entry pattern_order_total q p e places.rules.nsdname
entry_at-with places (Rule (NsIp p)) (Rule (NsIp q)) e = lookup-insert_entry prefix_order_total q p e places.rules.nsip
entry_at-with places (Other p) (Other q) e = lookup-insert_entry pattern_order_total q p e places.other
entry_at-with places p q e = refl

entry_at-without : (places : PlainPlaces) (p q : Place) → is_same_place q p ≡ false → entry_at (without_entry places p) q ≡ entry_at places q
entry_at-without places (Rule (ClientIp p)) (Rule (ClientIp q)) h = lookup-remove_entry prefix_order_total q p places.rules.client_ip h
entry_at-without places (Rule (Qname p)) (Rule (Qname q)) h = lookup-remove_entry pattern_order_total q p places.rules.qname h
entry_at-without places (Rule (ResponseIp p)) (Rule (ResponseIp q)) h = lookup-remove_entry prefix_order_total q p places.rules.response_ip h
entry_at-without places (Rule (NsDname p)) (Rule (NsDname q)) h = lookup-remove_entry pattern_order_total q p places.rules.nsdname h
entry_at-without places (Rule (NsIp p)) (Rule (NsIp q)) h = lookup-remove_entry prefix_order_total q p places.rules.nsip h
entry_at-without places (Other p) (Other q) h = lookup-remove_entry pattern_order_total q p places.other h
entry_at-without places p q h = refl

entry_at-gone : (places : PlainPlaces) (p : Place) → AreRanked places → entry_at (without_entry places p) p ≡ None
entry_at-gone places (Rule (ClientIp p)) s = lookup-gone prefix_order_total p places.rules.client_ip s.client_ip
entry_at-gone places (Rule (Qname p)) s = lookup-gone pattern_order_total p places.rules.qname s.qname
entry_at-gone places (Rule (ResponseIp p)) s = lookup-gone prefix_order_total p places.rules.response_ip s.response_ip
entry_at-gone places (Rule (NsDname p)) s = lookup-gone pattern_order_total p places.rules.nsdname s.nsdname
entry_at-gone places (Rule (NsIp p)) s = lookup-gone prefix_order_total p places.rules.nsip s.nsip
entry_at-gone places (Other p) s = lookup-gone pattern_order_total p places.other s.other

put_apart : (places : PlainPlaces) (p q : Place) (found : Option PlainEntry) → is_same_place q p ≡ false → entry_at (put_at places p found) q ≡ entry_at places q
put_apart places p q None h = entry_at-without places p q h
put_apart places p q (Some e) h = entry_at-with places p q e ∙ ap (λ (b : Bool). cond b (Some e) (entry_at places q)) h

put_here : (places : PlainPlaces) (p : Place) (found : Option PlainEntry) → AreRanked places → entry_at (put_at places p found) p ≡ found
put_here places p None s = entry_at-gone places p s
put_here places p (Some e) s = entry_at-with places p p e ∙ ap (λ (b : Bool). cond b (Some e) (entry_at places p)) (place_itself p)

-- where rows change at one place alone, and its entry is put, the index is that of the new rows
module _ (laws : NameLaws) (origin : List (List ℕ)) (rows new : List PlainStored) (places : PlainPlaces) (p : Place) (found : Option PlainEntry)
    (is_place : IsPlace p) (index : IsIndexOf origin rows places) (ordered : AreRanked places)
    (others : (q : Place) → is_same_place q p ≡ false → stored_at origin new q ≡ stored_at origin rows q)
    (here : found ≡ entry_for p (stored_at origin new p)) where
  at_each : (q : Place) (b : Bool) → is_same_place q p ≡ b → IsPlace q → entry_at (put_at places p found) q ≡ entry_for q (stored_at origin new q)
  at_each q true h is_q =
      let same : q ≡ p = equal_place laws q p is_q is_place h in
      subst (λ (r : Place). entry_at (put_at places p found) r ≡ entry_for r (stored_at origin new r)) (sym same) (put_here places p found ordered ∙ here)
  at_each q false h is_q =
      put_apart places p q found h
      ∙ index q is_q
      ∙ ap (entry_for q) (sym (others q h))

  pub settled : IsIndexOf origin new (put_at places p found)
  settled q is_q = at_each q (is_same_place q p) refl is_q

-- ---- the rows of a place

-- a row more
pub stored_more : (origin : List (List ℕ)) (rows : List PlainStored) (s : PlainStored) (p : Place)
    → stored_at origin (rows ++ s ∷ []) p ≡ stored_at origin rows p ++ cond (is_same_place p (row_place origin (plain_row s))) (s ∷ []) []
stored_more origin rows s p = filter-append (λ r. is_same_place p (row_place origin (plain_row r))) rows (s ∷ [])

pub more_apart : (origin : List (List ℕ)) (rows : List PlainStored) (s : PlainStored) (p q : Place) → p ≡ row_place origin (plain_row s) → is_same_place q p ≡ false
    → stored_at origin (rows ++ s ∷ []) q ≡ stored_at origin rows q
more_apart origin rows s p q e h =
    stored_more origin rows s q
    ∙ ap (λ (b : Bool). stored_at origin rows q ++ cond b (s ∷ []) []) (ap (is_same_place q) (sym e) ∙ h)
    ∙ append-nil (stored_at origin rows q)

pub more_here : (origin : List (List ℕ)) (rows : List PlainStored) (s : PlainStored) (p : Place) → p ≡ row_place origin (plain_row s)
    → stored_at origin (rows ++ s ∷ []) p ≡ stored_at origin rows p ++ s ∷ []
more_here origin rows s p e =
    stored_more origin rows s p
    ∙ ap (λ (b : Bool). stored_at origin rows p ++ cond b (s ∷ []) []) (ap (is_same_place p) (sym e) ∙ place_itself p)

module _ {X : Type 0} (f g : X → Bool) where
  -- two filters in either order
  filters_by : (a b : Bool) (x : X) (xs : List X) → f x ≡ a → g x ≡ b → filter f (filter g xs) ≡ filter g (filter f xs)
      → filter f (cond b (x ∷ filter g xs) (filter g xs)) ≡ filter g (cond a (x ∷ filter f xs) (filter f xs))
  filters_by true true x xs ea eb h =
      ap (λ (b : Bool). cond b (x ∷ filter f (filter g xs)) (filter f (filter g xs))) ea ∙ ap (λ (ys : List X). x ∷ ys) h ∙ sym (ap (λ (b : Bool). cond b (x ∷ filter g (filter f xs)) (filter g (filter f xs))) eb)
  filters_by true false x xs ea eb h = h ∙ sym (ap (λ (b : Bool). cond b (x ∷ filter g (filter f xs)) (filter g (filter f xs))) eb)
  filters_by false true x xs ea eb h = ap (λ (b : Bool). cond b (x ∷ filter f (filter g xs)) (filter f (filter g xs))) ea ∙ h
  filters_by false false x xs ea eb h = h

  pub filters_turn : (xs : List X) → filter f (filter g xs) ≡ filter g (filter f xs)
  filters_turn [] = refl
  filters_turn (x ∷ xs) = filters_by (f x) (g x) x xs refl refl (filters_turn xs)

-- without the row of a number
pub stored_less : (origin : List (List ℕ)) (n : ℕ) (rows : List PlainStored) (p : Place) → stored_at origin (without_number n rows) p ≡ without_number n (stored_at origin rows p)
stored_less origin n rows p = filters_turn (λ r. is_same_place p (row_place origin (plain_row r))) (λ r. not (has_number n r)) rows

module _ {X : Type 0} (f g h : X → Bool) where
  apart_by : (a b : Bool) (x : X) (xs : List X) → f x ≡ a → g x ≡ b → (b ≡ true → a ≡ true) → filter f (filter g xs) ≡ filter g xs → filter f (cond b (x ∷ filter g xs) (filter g xs)) ≡ cond b (x ∷ filter g xs) (filter g xs)
  apart_by a true x xs ea eb t others =
      ap (λ (c : Bool). cond c (x ∷ filter f (filter g xs)) (filter f (filter g xs))) (ea ∙ t refl) ∙ ap (λ (ys : List X). x ∷ ys) others
  apart_by a false x xs ea eb t others = others

  -- what passes the second passes the first
  pub filter_again : (xs : List X) → AllByRecursion (λ x. g x ≡ true → f x ≡ true) xs → filter f (filter g xs) ≡ filter g xs
  filter_again [] all = refl
  filter_again (x ∷ xs) all = apart_by (f x) (g x) x xs refl refl all.0 (filter_again xs all.1)
