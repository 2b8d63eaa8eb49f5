-- Entries that act, with one value in place of their own.
use Rattle.std.proofs.Common.{◌≡◌, ◌⊎◌, inl, inr, ℕ, Bool, true, false, cond, ◌++◌, Option, Some, None, Result, Ok, Err, List, [], ◌∷◌, map, refl, sym, ap, subst, ◌∙◌, option_map, IfSome}
use Rattle.std.specs.Prelude.{IfOk}
use Rattle.std.specs.BTreeMap.{is_at}
use Rattle.std.specs.Cmp.{IsTotalOrder}
use Rattle.std.specs.List.{AllByRecursion}
use Rattle.std.specs.List.Sorted.{IsStrictlySortedBy}
use Rattle.std.specs.Map.{keys_of, lookup}
use Rattle.std.specs.Option.{is_some}
use Rattle.std.specs.declared.cmp.Ordering.{Ordering}
use Rattle.std.specs.declared.cmp.Ordering.TheVariants.{Less}
use Rattle.dns_name.specs.Alike.{PlainPattern}
use Rattle.ip_prefix.specs.Prefix.{PlainPrefix, prefix_order}
use Rattle.octet_trie.specs.Trie.{found_entry}
use Rattle.octet_trie.specs.declared.trie.OctetFound.{OctetFound}
use Rattle.prefix_index.proofs.Order.{prefix_order_total}
use Rattle.qname_index.proofs.Ranking.{found_at, no_entries}
use Rattle.qname_index.proofs.Same.{key_order, key_total}
use Rattle.qname_index.specs.Best.{pattern_order}
use Rattle.qname_index.specs.Ranked.{IsPatternKey, pattern_key, ranked_patterns}
use Rattle.qname_index.specs.Trie.{IsNameTrie}
use Rattle.packed_lists.specs.Blocks.{PlainRowList}
use Rattle.packed_lists.specs.Stored.{PlainStored}
use Rattle.trie_keys.specs.declared.marked.Marked.{Marked}
use Rattle.trigger_codec.specs.declared.trigger.Kind.{Kind}
use Rattle.trigger_codec.specs.declared.trigger.Kind.TheVariants as kinds
use Rattle.trigger_codec.specs.declared.trigger.Trigger.TheVariants.{ClientIp, Qname, ResponseIp, NsDname, NsIp}
use Rattle.action_codec.specs.declared.action.Action.{Action}
use Rattle.trie_keys.proofs.ByKey.{apart_from, ordered-others}
use Rattle.zone_index.proofs.LookUps.{Looking, rule_looked}
use Rattle.zone_index.proofs.Mapped.{lookup_moved, value_found}
use Rattle.trie_keys.proofs.OneList.{none_found}
use Rattle.zone_index.proofs.Shown.{DoAct, client_ip_acts, entry_does, nsdname_acts, nsip_acts, qname_acts, response_ip_acts}
use Rattle.zone_index.specs.ActingEntries.{StandsAt, StandsByKey, acting_marked, at_pattern, at_prefix, marked, marked_if_entry, marked_if, marked_if_kept, marked_if_rule, pattern_rules, pattern_values, prefix_rules, prefix_values}
use Rattle.zone_index.specs.Does.{acts}
use Rattle.zone_index.specs.Entry.{PlainEntry}
use Rattle.zone_index.specs.Groups.{AreAllWell, AreWell, IsWell, entries_in, entry_in, places_in}
use Rattle.zone_index.specs.Kept.{kept_acts}
use Rattle.zone_index.specs.Placed.{PlainIndexed, entry_action, rules_in}
use Rattle.zone_index.specs.Places.{PlacesOf, PlainPlaces, RulesOf}
use Rattle.zone_index.specs.declared.group.Group.{Group}
use Rattle.zone_index.specs.declared.kept.Kept.{Kept}

module _ {K N : Type 0} (value : N) where
  -- ---- the keys

  keys_by : (P : K → Type 0) (b : Bool) (k : K) (rest : List (K × Marked N Bool)) → P k → AllByRecursion P (keys_of rest) → AllByRecursion P (keys_of (cond b ((k, marked value) ∷ []) [] ++ rest))
  keys_by P true k rest h all = (h, all)
  keys_by P false k rest h all = all

  acted_keys : (P : K → Type 0) (es : List (K × Marked ℕ Kept)) → AllByRecursion P (keys_of es) → AllByRecursion P (keys_of (acting_marked value es))
  acted_keys P [] all = tt
  acted_keys P (e ∷ es) all = keys_by P (kept_acts e.1.mark) e.0 (acting_marked value es) all.0 (acted_keys P es all.1)

  entries_by : (P : K → Type 0) (b : Bool) (k : K) (rest : List (K × Marked N Bool)) → P k → AllByRecursion (λ e. P e.0) rest → AllByRecursion (λ e. P e.0) (cond b ((k, marked value) ∷ []) [] ++ rest)
  entries_by P true k rest h all = (h, all)
  entries_by P false k rest h all = all

  acted_entries : (P : K → Type 0) (es : List (K × Marked ℕ Kept)) → AllByRecursion (λ e. P e.0) es → AllByRecursion (λ e. P e.0) (acting_marked value es)
  acted_entries P [] all = tt
  acted_entries P (e ∷ es) all = entries_by P (kept_acts e.1.mark) e.0 (acting_marked value es) all.0 (acted_entries P es all.1)

  module _ {R : K → K → Ordering} (o : IsTotalOrder R) where
    sorted_by : (b : Bool) (k : K) (rest : List (K × Marked N Bool)) → AllByRecursion (λ y. R k y ≡ Less) (keys_of rest) → IsStrictlySortedBy R (keys_of rest) → IsStrictlySortedBy R (keys_of (cond b ((k, marked value) ∷ []) [] ++ rest))
    unfolding IsStrictlySortedBy
    sorted_by true k rest above s = (above, s)
    sorted_by false k rest above s = s

    pub acted_sorted : (es : List (K × Marked ℕ Kept)) → IsStrictlySortedBy R (keys_of es) → IsStrictlySortedBy R (keys_of (acting_marked value es))
    unfolding IsStrictlySortedBy
    acted_sorted [] s = s
    acted_sorted (e ∷ es) s = sorted_by (kept_acts e.1.mark) e.0 (acting_marked value es) (acted_keys (λ y. R e.0 y ≡ Less) es s.0) (acted_sorted es s.1)

    -- ---- what stands at a key

    found_by : (q : K) (e : K × Marked ℕ Kept) (es : List (K × Marked ℕ Kept)) (a b : Bool) → kept_acts e.1.mark ≡ a → is_at (R q) e.0 ≡ b → IsStrictlySortedBy R (keys_of (e ∷ es))
        → lookup (is_at (R q)) (acting_marked value es) ≡ marked_if_kept value (lookup (is_at (R q)) es)
        → lookup (is_at (R q)) (cond a ((e.0, marked value) ∷ []) [] ++ acting_marked value es) ≡ marked_if_kept value (cond b (Some e.1) (lookup (is_at (R q)) es))
    found_by q e es true true ea eb s others = ap (λ (b : Bool). cond b (Some (marked value)) (lookup (is_at (R q)) (acting_marked value es))) eb ∙ ap (marked_if value) (sym ea)
    found_by q e es true false ea eb s others = ap (λ (b : Bool). cond b (Some (marked value)) (lookup (is_at (R q)) (acting_marked value es))) eb ∙ others
    found_by q e es false true ea eb s others = none_found o q (acting_marked value es) (acted_keys (λ y. is_at (R q) y ≡ false) es (apart_from o q e es eb s)) ∙ ap (marked_if value) (sym ea)
    found_by q e es false false ea eb s others = others

    pub lookup_acted : (q : K) (es : List (K × Marked ℕ Kept)) → IsStrictlySortedBy R (keys_of es) → lookup (is_at (R q)) (acting_marked value es) ≡ marked_if_kept value (lookup (is_at (R q)) es)
    lookup_acted q [] s = refl
    lookup_acted q (e ∷ es) s =
        found_by q e es (kept_acts e.1.mark) (is_at (R q) e.0) refl refl s (lookup_acted q es (ordered-others o e es s))

-- ---- patterns by their keys

module _ {N : Type 0} (value : N) (found : List (OctetFound ℕ Kept)) (made : List (OctetFound N Bool)) (is : IsNameTrie (map found_entry found)) (e : map found_entry made ≡ acting_marked value (map found_entry found)) where
  pub made_trie : IsNameTrie (map found_entry made)
  made_trie =
      subst (λ (l : List (List ℕ × Marked N Bool)). IsNameTrie l) (sym e)
      (record { keys = acted_entries value IsPatternKey (map found_entry found) is.keys; ordered = acted_sorted value key_total (map found_entry found) is.ordered })

  pub made_at : (entries : List (PlainPattern × Marked ℕ Kept)) → ranked_patterns (map found_entry found) ≡ entries → StandsByKey (λ p. marked_if_kept value (at_pattern entries p)) (map found_entry made)
  made_at entries view p named =
      ap (λ (l : List (List ℕ × Marked N Bool)). lookup (is_at (key_order (pattern_key p))) l) e
      ∙ lookup_acted value key_total (pattern_key p) (map found_entry found) is.ordered
      ∙ ap (marked_if_kept value) (sym (found_at p (map found_entry found) is.keys) ∙ ap (λ (l : List (PlainPattern × Marked ℕ Kept)). at_pattern l p) view)

-- ---- values of numbers and of groups

module _ {N : Type 0} (value : N) (groups : List Group) where
  kept_entry : (found : Option (Marked ℕ Kept)) → IfSome found (IsWell groups) → marked_if_kept value found ≡ marked_if_entry value (option_map (entry_in groups) found)
  kept_entry None well = refl
  kept_entry (Some kept) well = ap (marked_if value) well.acts_so

  entry_at : {K : Type 0} (test : K → Bool) (es : List (K × Marked ℕ Kept)) → AreWell groups es → marked_if_kept value (lookup test es) ≡ marked_if_entry value (lookup test (entries_in groups es))
  entry_at test es well =
      kept_entry (lookup test es) (value_found (IsWell groups) test es well)
      ∙ ap (marked_if_entry value) (sym (lookup_moved (entry_in groups) test es))

  pattern_at : (places : PlacesOf (Marked ℕ Kept)) → AreAllWell groups places → (kind : Kind) (p : PlainPattern)
      → marked_if_kept value (at_pattern (pattern_values places.rules kind) p) ≡ marked_if_entry value (at_pattern (pattern_values (places_in groups places).rules kind) p)
  pattern_at places well kinds.ClientIp p = refl
  pattern_at places well kinds.Qname p = entry_at (is_at (pattern_order p)) places.rules.qname well.qname
  pattern_at places well kinds.ResponseIp p = refl
  pattern_at places well kinds.NsDname p = entry_at (is_at (pattern_order p)) places.rules.nsdname well.nsdname
  pattern_at places well kinds.NsIp p = refl

  prefix_at : (places : PlacesOf (Marked ℕ Kept)) → AreAllWell groups places → (kind : Kind) (p : PlainPrefix)
      → marked_if_kept value (at_prefix (prefix_values places.rules kind) p) ≡ marked_if_entry value (at_prefix (prefix_values (places_in groups places).rules kind) p)
  prefix_at places well kinds.ClientIp p = entry_at (is_at (prefix_order p)) places.rules.client_ip well.client_ip
  prefix_at places well kinds.Qname p = refl
  prefix_at places well kinds.ResponseIp p = entry_at (is_at (prefix_order p)) places.rules.response_ip well.response_ip
  prefix_at places well kinds.NsDname p = refl
  prefix_at places well kinds.NsIp p = entry_at (is_at (prefix_order p)) places.rules.nsip well.nsip

  module _ (places : PlacesOf (Marked ℕ Kept)) (index : PlainPlaces) (well : AreAllWell groups places) (view : places_in groups places ≡ index) (kind : Kind) where
    pub patterns_stand : (es : List (List ℕ × Marked N Bool)) → StandsByKey (λ p. marked_if_kept value (at_pattern (pattern_values places.rules kind) p)) es
        → StandsByKey (λ p. marked_if_entry value (at_pattern (pattern_values index.rules kind) p)) es
    patterns_stand es h p named = h p named ∙ pattern_at places well kind p ∙ ap (λ (i : PlainPlaces). marked_if_entry value (at_pattern (pattern_values i.rules kind) p)) view

    pub prefixes_stand : (es : List (PlainPrefix × Marked N Bool)) → StandsAt (λ p. marked_if_kept value (at_prefix (prefix_values places.rules kind) p)) es
        → StandsAt (λ p. marked_if_entry value (at_prefix (prefix_values index.rules kind) p)) es
    prefixes_stand es h p = h p ∙ prefix_at places well kind p ∙ ap (λ (i : PlainPlaces). marked_if_entry value (at_prefix (prefix_values i.rules kind) p)) view

-- ---- rules

module _ {N : Type 0} (value : N) where
  some_marked : (a : Option Action) → marked_if value (is_some a) ≡ marked_if_rule value a
  some_marked None = refl
  some_marked (Some a) = refl

  rule_of : (rows : List PlainStored) (found : Option PlainEntry) → IfSome found (λ e. is_some (entry_action rows e) ≡ acts e.does) → marked_if_entry value found ≡ marked_if_rule value (entry_does rows found)
  rule_of rows None h = refl
  rule_of rows (Some e) h = ap (marked_if value) (sym h) ∙ some_marked (entry_action rows e)

  rule_there : {K : Type 0} (rows : List PlainStored) (test : K → Bool) (es : List (K × PlainEntry)) → DoAct rows es → marked_if_entry value (lookup test es) ≡ marked_if_rule value (entry_does rows (lookup test es))
  rule_there rows test es act = rule_of rows (lookup test es) (value_found (λ e. is_some (entry_action rows e) ≡ acts e.does) test es act)

  module _ (origin : List (List ℕ)) (list : PlainRowList) (places : PlainPlaces) (v : PlainIndexed) (l : Looking origin list places v) where
    pattern_rule : (kind : Kind) (p : PlainPattern) → marked_if_entry value (at_pattern (pattern_values places.rules kind) p) ≡ marked_if_rule value (at_pattern (pattern_rules (rules_in v) kind) p)
    pattern_rule kinds.ClientIp p = refl
    pattern_rule kinds.Qname p =
        rule_there list.rows (is_at (pattern_order p)) places.rules.qname (qname_acts l.laws origin list.rows list.next places l.rise l.is.index l.ranked l.lower)
        ∙ ap (marked_if_rule value) (rule_looked origin list places v l (Qname p) (at_pattern places.rules.qname p) refl)
    pattern_rule kinds.ResponseIp p = refl
    pattern_rule kinds.NsDname p =
        rule_there list.rows (is_at (pattern_order p)) places.rules.nsdname (nsdname_acts l.laws origin list.rows list.next places l.rise l.is.index l.ranked l.lower)
        ∙ ap (marked_if_rule value) (rule_looked origin list places v l (NsDname p) (at_pattern places.rules.nsdname p) refl)
    pattern_rule kinds.NsIp p = refl

    prefix_rule : (kind : Kind) (p : PlainPrefix) → marked_if_entry value (at_prefix (prefix_values places.rules kind) p) ≡ marked_if_rule value (at_prefix (prefix_rules (rules_in v) kind) p)
    prefix_rule kinds.ClientIp p =
        rule_there list.rows (is_at (prefix_order p)) places.rules.client_ip (client_ip_acts l.laws origin list.rows list.next places l.rise l.is.index l.ranked l.lower)
        ∙ ap (marked_if_rule value) (rule_looked origin list places v l (ClientIp p) (at_prefix places.rules.client_ip p) refl)
    prefix_rule kinds.Qname p = refl
    prefix_rule kinds.ResponseIp p =
        rule_there list.rows (is_at (prefix_order p)) places.rules.response_ip (response_ip_acts l.laws origin list.rows list.next places l.rise l.is.index l.ranked l.lower)
        ∙ ap (marked_if_rule value) (rule_looked origin list places v l (ResponseIp p) (at_prefix places.rules.response_ip p) refl)
    prefix_rule kinds.NsDname p = refl
    prefix_rule kinds.NsIp p =
        rule_there list.rows (is_at (prefix_order p)) places.rules.nsip (nsip_acts l.laws origin list.rows list.next places l.rise l.is.index l.ranked l.lower)
        ∙ ap (marked_if_rule value) (rule_looked origin list places v l (NsIp p) (at_prefix places.rules.nsip p) refl)

    pub pattern_rules_stand : (kind : Kind) (es : List (List ℕ × Marked N Bool)) → StandsByKey (λ p. marked_if_entry value (at_pattern (pattern_values places.rules kind) p)) es
        → StandsByKey (λ p. marked_if_rule value (at_pattern (pattern_rules (rules_in v) kind) p)) es
    pattern_rules_stand kind es h p named = h p named ∙ pattern_rule kind p

    pub prefix_rules_stand : (kind : Kind) (es : List (PlainPrefix × Marked N Bool)) → StandsAt (λ p. marked_if_entry value (at_prefix (prefix_values places.rules kind) p)) es
        → StandsAt (λ p. marked_if_rule value (at_prefix (prefix_rules (rules_in v) kind) p)) es
    prefix_rules_stand kind es h p = h p ∙ prefix_rule kind p

-- ---- prefixes

module _ {N : Type 0} (value : N) (kept : List (PlainPrefix × Marked ℕ Kept)) (made : List (PlainPrefix × Marked N Bool)) (sorted : IsStrictlySortedBy prefix_order (keys_of kept)) (e : made ≡ acting_marked value kept) where
  pub made_sorted : IsStrictlySortedBy prefix_order (keys_of made)
  made_sorted =
      subst (λ (l : List (PlainPrefix × Marked N Bool)). IsStrictlySortedBy prefix_order (keys_of l)) (sym e) (acted_sorted value prefix_order_total kept sorted)

  pub made_prefixes : (entries : List (PlainPrefix × Marked ℕ Kept)) → kept ≡ entries → StandsAt (λ p. marked_if_kept value (at_prefix entries p)) made
  made_prefixes entries view p =
      ap (λ (l : List (PlainPrefix × Marked N Bool)). lookup (is_at (prefix_order p)) l) e
      ∙ lookup_acted value prefix_order_total p kept sorted
      ∙ ap (λ (l : List (PlainPrefix × Marked ℕ Kept)). marked_if_kept value (at_prefix l p)) view

-- ---- no entries

sorted_none : IsStrictlySortedBy prefix_order []
unfolding IsStrictlySortedBy
sorted_none = tt

module _ {N : Type 0} where
  pub no_trie : (made : List (OctetFound N Bool)) → made ≡ [] → IsNameTrie (map found_entry made)
  no_trie made e = subst (λ (l : List (OctetFound N Bool)). IsNameTrie (map found_entry l)) (sym e) no_entries

  pub no_prefixes : (made : List (PlainPrefix × Marked N Bool)) → made ≡ [] → IsStrictlySortedBy prefix_order (keys_of made)
  no_prefixes made e = subst (λ (l : List (PlainPrefix × Marked N Bool)). IsStrictlySortedBy prefix_order (keys_of l)) (sym e) sorted_none

module _ {N : Type 0} (value : N) (rules : RulesOf (Marked ℕ Kept)) where
  no_patterns : (kind : Kind) → (kind ≡ kinds.ClientIp) ⊎ ((kind ≡ kinds.ResponseIp) ⊎ (kind ≡ kinds.NsIp)) → pattern_values rules kind ≡ []
  no_patterns kind (inl e) = ap (pattern_values rules) e
  no_patterns kind (inr (inl e)) = ap (pattern_values rules) e
  no_patterns kind (inr (inr e)) = ap (pattern_values rules) e

  -- no pattern has a trigger of another kind
  pub none_stand : (kind : Kind) (made : List (OctetFound N Bool)) → (kind ≡ kinds.ClientIp) ⊎ ((kind ≡ kinds.ResponseIp) ⊎ (kind ≡ kinds.NsIp)) → made ≡ []
      → StandsByKey (λ p. marked_if_kept value (at_pattern (pattern_values rules kind) p)) (map found_entry made)
  none_stand kind made is e p named =
      ap (λ (l : List (OctetFound N Bool)). lookup (is_at (key_order (pattern_key p))) (map found_entry l)) e
      ∙ ap (λ (l : List (PlainPattern × Marked ℕ Kept)). marked_if_kept value (at_pattern l p)) (sym (no_patterns kind is))

-- ---- results

-- what stands in a list that was made
pub if_stand : {A E : Type 0} (P Q : A → Type 0) (r : Result A E) → ((x : A) → P x → Q x) → IfOk r P → IfOk r Q
if_stand P Q (Ok x) f h = f x h
if_stand P Q (Err e) f h = tt
