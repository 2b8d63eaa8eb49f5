-- What a look-up by octets gives, as the entry of a pattern.
use Rattle.std.proofs.Common.{◌≡◌, ℕ, ◌&&◌, ◌||◌, cond, Bool, true, false, Option, Some, None, List, [], ◌∷◌, is_some, refl, sym, ap, ◌∙◌}
use Rattle.std.specs.List.{find, list_any}
use Rattle.std.specs.Option.{option_map}
use Rattle.dns_name.specs.Alike.{PlainPattern, matches}
use Rattle.dns_name.specs.Labels.{Name, lowered}
use Rattle.octet_trie.specs.Fits.{fits}
use Rattle.trie_keys.specs.Scan.{last_where}
use Rattle.trie_keys.proofs.Scan.{any_last}
use Rattle.qname_index.specs.Key.{name_key}
use Rattle.qname_index.specs.Patterns.{pattern_in}
use Rattle.qname_index.specs.Ranked.{IsPatternKey, ranked_patterns}
use Rattle.qname_index.specs.Trie.{IsNameTrie}
use Rattle.qname_index.proofs.Finding.{best_found}
use Rattle.qname_index.proofs.Last.{last_all}
use Rattle.qname_index.proofs.Longer.{AreAlike, AreWithin}

or_first : {X : Type 0} (b : Bool) (x : X) (o : Option X) (rest : Bool) → rest ≡ is_some o → (b || rest) ≡ is_some (cond b (Some x) o)
or_first true x o rest h = refl
or_first false x o rest h = h

-- some entry passes where there is a first one that does
any_find : {X : Type 0} (test : X → Bool) (es : List X) → list_any test es ≡ is_some (find test es)
any_find test [] = refl
any_find test (e ∷ es) = or_first (test e) e (find test es) (list_any test es) (any_find test es)

some_mapped : {X Y : Type 0} (f : X → Y) (o : Option X) → is_some o ≡ is_some (option_map f o)
some_mapped f None = refl
some_mapped f (Some x) = refl

-- the octets that are looked up are the key of the name
module _ {V : Type 0} (acts : V → Bool) (name : Name) (octets : List ℕ) (key : octets ≡ name_key name) where
  abbrev hit : List ℕ × V → Bool
  hit e = fits octets e.0 && acts e.1

  pub found_key : (es : List (List ℕ × V)) (e : List ℕ × V) → IsNameTrie es → Some e ≡ last_where hit es → IsPatternKey e.0
  found_key es e trie h = last_all hit (λ x. IsPatternKey x.0) es e trie.keys (sym h)

  abbrev best_in : List (PlainPattern × V) → Option (PlainPattern × V)
  best_in entries = find (λ e. matches e.0 name && acts e.1) entries

  abbrev as_pattern : List ℕ × V → PlainPattern × V
  as_pattern e = (pattern_in e.0, e.1)

  by_octets : (es : List (List ℕ × V)) → lowered name ≡ name → AreAlike → AreWithin → IsNameTrie es → option_map as_pattern (last_where hit es) ≡ best_in (ranked_patterns es)
  by_octets es lower alike within trie =
      ap (λ k. option_map as_pattern (last_where (λ e. fits k e.0 && acts e.1) es)) key ∙ best_found acts name lower alike within es trie

  pub some_found : (es : List (List ℕ × V)) (entries : List (PlainPattern × V)) (e : List ℕ × V) (p : PlainPattern) → p ≡ pattern_in e.0 → lowered name ≡ name → AreAlike → AreWithin
      → IsNameTrie es → ranked_patterns es ≡ entries → Some e ≡ last_where hit es → Some (p, e.1) ≡ best_in entries
  some_found es entries e p same lower alike within trie view h =
      ap (λ (q : PlainPattern). Some (q, e.1)) same ∙ ap (option_map as_pattern) h ∙ by_octets es lower alike within trie ∙ ap best_in view

  pub none_found : (es : List (List ℕ × V)) (entries : List (PlainPattern × V)) → lowered name ≡ name → AreAlike → AreWithin
      → IsNameTrie es → ranked_patterns es ≡ entries → None ≡ last_where hit es → None ≡ best_in entries
  none_found es entries lower alike within trie view h =
      ap (option_map as_pattern) h ∙ by_octets es lower alike within trie ∙ ap best_in view

  -- whether any entry answers by octets, and whether any matches
  pub any_found : (es : List (List ℕ × V)) (entries : List (PlainPattern × V)) (found : Bool) → lowered name ≡ name → AreAlike → AreWithin
      → IsNameTrie es → ranked_patterns es ≡ entries → found ≡ list_any hit es → found ≡ list_any (λ e. matches e.0 name && acts e.1) entries
  any_found es entries found lower alike within trie view h =
      h ∙ any_last hit es ∙ some_mapped as_pattern (last_where hit es)
      ∙ ap is_some (by_octets es lower alike within trie ∙ ap best_in view) ∙ sym (any_find (λ e. matches e.0 name && acts e.1) entries)
