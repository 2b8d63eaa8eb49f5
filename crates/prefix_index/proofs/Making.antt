-- A map made of entries in any order.
use Rattle.std.proofs.Common.{◌≡◌, ℕ, Bool, true, false, cond, Option, Some, None, List, [], ◌∷◌, refl, sym, ap, ◌∙◌}
use Rattle.std.specs.BTreeMap.{insert_entry, is_at}
use Rattle.std.specs.List.Sorted.{IsStrictlySortedBy}
use Rattle.std.specs.Map.{keys_of, lookup}
use Rattle.std.specs.Option.{option_map}
use Rattle.ip_prefix.specs.declared.Addr.{Addr}
use Rattle.ip_prefix.specs.declared.Addr.TheVariants.{V4, V6}
use Rattle.ip_prefix.specs.Prefix.{PlainPrefix, prefix_order}
use Rattle.trie_keys.specs.Scan.{last_where, option_else}
use Rattle.prefix_index.specs.Bits.{PlainBits, bits_order, bits_keys}
use Rattle.prefix_index.specs.Made.{IsMadeOf, keyed_by}
use Rattle.prefix_index.proofs.Order.{prefix_order_total}
use Rattle.prefix_index.specs.Ranked.{prefix_four, prefix_six, prefixes, ranked_prefixes, four_bits, six_bits, with_all}
use Rattle.trie_keys.proofs.ByKey.{lookup-insert_entry, ordered-insert}
use Rattle.prefix_index.proofs.Permuting.{found_last}
use Rattle.prefix_index.proofs.Ranking.{bits_total, four_at, six_at, four_not_six, six_not_four, look_four, look_six, or_else, same_lists, sorted_ranked}

none_sorted : IsStrictlySortedBy prefix_order []
unfolding IsStrictlySortedBy
none_sorted = tt

module _ {V : Type 0} where
  abbrev look : PlainPrefix → List (PlainPrefix × V) → Option V
  look q es = lookup (is_at (prefix_order q)) es

  abbrev last_at : PlainPrefix → List (PlainPrefix × V) → Option V
  last_at q es = option_map (λ e. e.1) (last_where (λ e. is_at (prefix_order q) e.0) es)

  one_more : (found : Option (PlainPrefix × V)) (b : Bool) (e : PlainPrefix × V) (rest : Option V) → or_else (option_map (λ e. e.1) found) (cond b (Some e.1) rest) ≡ or_else (option_map (λ e. e.1) (option_else found (cond b (Some e) None))) rest
  one_more None true e rest = refl
  one_more None false e rest = refl
  one_more (Some x) b e rest = refl

  -- what is found where entries were put in one after the other is the last one at the place
  look_all : (q : PlainPrefix) (base es : List (PlainPrefix × V)) → look q (with_all base es) ≡ or_else (last_at q es) (look q base)
  look_all q base [] = refl
  look_all q base (e ∷ es) =
      look_all q (insert_entry prefix_order base e.0 e.1) es
      ∙ ap (λ found. or_else (last_at q es) found) (lookup-insert_entry prefix_order_total q e.0 e.1 base)
      ∙ one_more (last_where (λ x. is_at (prefix_order q) x.0) es) (is_at (prefix_order q) e.0) e (look q base)

  or_nothing : (found : Option V) → or_else found None ≡ found
  or_nothing None = refl
  or_nothing (Some v) = refl

  sorted_all : (base es : List (PlainPrefix × V)) → IsStrictlySortedBy prefix_order (keys_of base) → IsStrictlySortedBy prefix_order (keys_of (with_all base es))
  sorted_all base [] sorted = sorted
  sorted_all base (e ∷ es) sorted = sorted_all (insert_entry prefix_order base e.0 e.1) es (ordered-insert prefix_order_total e.0 e.1 base sorted)

  -- what comes of one more entry at a prefix
  step : (found : Option (PlainPrefix × V)) (there : Option (PlainBits × V)) (b c : Bool) (v : V) (p : PlainPrefix) (k : PlainBits) → option_map (λ e. e.1) found ≡ option_map (λ e. e.1) there → b ≡ c → option_map (λ e. e.1) (option_else found (cond b (Some (p, v)) None)) ≡ option_map (λ e. e.1) (option_else there (cond c (Some (k, v)) None))
  step None None true true v p k e h = refl
  step None None true false v p k e h = cc h
  step None None false true v p k e h = cc h
  step None None false false v p k e h = refl
  step None (Some y) b c v p k e h = cc e
  step (Some x) None b c v p k e h = cc e
  step (Some x) (Some y) b c v p k e h = e

  past : (found : Option (PlainPrefix × V)) (b : Bool) (e : PlainPrefix × V) → b ≡ false → option_map (λ e. e.1) (option_else found (cond b (Some e) None)) ≡ option_map (λ e. e.1) found
  past None true e h = cc h
  past None false e h = refl
  past (Some x) b e h = refl

  abbrev last_in : PlainBits → List (PlainBits × V) → Option V
  last_in b es = option_map (λ e. e.1) (last_where (λ e. is_at (bits_order b) e.0) es)

  four_step : (b : PlainBits) (a : Addr) (n : ℕ) (v : V) (es : List (PlainPrefix × V)) → last_at (prefix_four b) es ≡ last_in b (keyed_by four_bits es) → last_at (prefix_four b) ((record { addr = a; length = n }, v) ∷ es) ≡ last_in b (keyed_by four_bits ((record { addr = a; length = n }, v) ∷ es))
  four_step b (V4 m) n v es rest = step (last_where (λ e. is_at (prefix_order (prefix_four b)) e.0) es) (last_where (λ e. is_at (bits_order b) e.0) (keyed_by four_bits es)) _ _ v (record { addr = V4 m; length = n }) (record { number = m; len = n }) rest (four_at b (record { number = m; len = n }))
  four_step b (V6 m) n v es rest = past (last_where (λ e. is_at (prefix_order (prefix_four b)) e.0) es) _ (record { addr = V6 m; length = n }, v) (four_not_six b (record { number = m; len = n })) ∙ rest

  last_four : (b : PlainBits) (es : List (PlainPrefix × V)) → last_at (prefix_four b) es ≡ last_in b (keyed_by four_bits es)
  last_four b [] = refl
  last_four b (e ∷ es) = four_step b e.0.addr e.0.length e.1 es (last_four b es)

  six_step : (b : PlainBits) (a : Addr) (n : ℕ) (v : V) (es : List (PlainPrefix × V)) → last_at (prefix_six b) es ≡ last_in b (keyed_by six_bits es) → last_at (prefix_six b) ((record { addr = a; length = n }, v) ∷ es) ≡ last_in b (keyed_by six_bits ((record { addr = a; length = n }, v) ∷ es))
  six_step b (V6 m) n v es rest = step (last_where (λ e. is_at (prefix_order (prefix_six b)) e.0) es) (last_where (λ e. is_at (bits_order b) e.0) (keyed_by six_bits es)) _ _ v (record { addr = V6 m; length = n }) (record { number = m; len = n }) rest (six_at b (record { number = m; len = n }))
  six_step b (V4 m) n v es rest = past (last_where (λ e. is_at (prefix_order (prefix_six b)) e.0) es) _ (record { addr = V4 m; length = n }, v) (six_not_four b (record { number = m; len = n })) ∙ rest

  last_six : (b : PlainBits) (es : List (PlainPrefix × V)) → last_at (prefix_six b) es ≡ last_in b (keyed_by six_bits es)
  last_six b [] = refl
  last_six b (e ∷ es) = six_step b e.0.addr e.0.length e.1 es (last_six b es)

  pub made : (es : List (PlainPrefix × V)) (four six : List (PlainBits × V)) → IsMadeOf (bits_keys 32) four_bits es four → IsMadeOf (bits_keys 128) six_bits es six → ranked_prefixes four six ≡ with_all [] es
  made es four six p q =
      same_lists (ranked_prefixes four six) (with_all [] es) (sorted_ranked (prefixes four six)) (sorted_all [] es none_sorted)
      (λ b.
      look_four b four six
      ∙ sym (found_last bits_total b (keyed_by four_bits es) four p.are.sorted p.permutation)
      ∙ sym (last_four b es)
      ∙ sym (or_nothing (last_at (prefix_four b) es))
      ∙ sym (look_all (prefix_four b) [] es))
      (λ b.
      look_six b four six
      ∙ sym (found_last bits_total b (keyed_by six_bits es) six q.are.sorted q.permutation)
      ∙ sym (last_six b es)
      ∙ sym (or_nothing (last_at (prefix_six b) es))
      ∙ sym (look_all (prefix_six b) [] es))
