-- Entries by prefix as entries by key.
use Rattle.std.proofs.Common.{◌≡◌, ℕ, zero, suc, ◌+◌, ◌<◌, Bool, true, Option, Some, None, List, [], ◌∷◌, ◌++◌, map, refl, sym, ap, ◌∙◌, subst, append_assoc, arith, length, take, slice_index_or}
use Rattle.std.proofs.lemmas.List.Elements.{filter_map-append}
use Rattle.std.specs.List.{AllByRecursion, cons_option}
use Rattle.std.specs.List.Sorted.{IsPermutation}
use Rattle.std.specs.Option.{option_map}
use Rattle.trie_keys.specs.Keys.{Keys}
use Rattle.trie_keys.specs.Sorting.{AreEntries}
use Rattle.trie_keys.specs.declared.marked.Marked.{Marked}
use Rattle.prefix_index.specs.Made.{AreKeys, IsKey, IsMadeOf, keyed, keyed_by}
use Rattle.prefix_index.specs.Trie.{ArePresent}
use Rattle.prefix_index.proofs.Permuting.{all_moved}
use Rattle.prefix_index.proofs.Plain.{map_push}

take_more : {X : Type 0} (xs : List X) (i : ℕ) (x : X) → i < length xs → x ≡ slice_index_or xs i x → take (i + 1) xs ≡ take i xs ++ x ∷ []
take_more [] i x h e = absurd (omega (arith, h))
take_more (y ∷ ys) zero x h e = ap (λ z. z ∷ []) (sym e)
take_more (y ∷ ys) (suc i) x h e =
    let more : suc i + 1 ≡ suc (i + 1) = omega arith in
    ap (λ n. take n (y ∷ ys)) more ∙ ap (λ zs. y ∷ zs) (take_more ys i x (omega (arith, h)) e)

module _ {X Y : Type 0} (f : X → Y) where
  pub map_more : (xs : List X) (i : ℕ) (x : X) → i < length xs → x ≡ slice_index_or xs i x → map f (take (i + 1) xs) ≡ map f (take i xs) ++ f x ∷ []
  map_more xs i x h e = ap (map f) (take_more xs i x h e) ∙ map_push f (take i xs) x

module _ {P K V : Type 0} (to : K → P) where
  pub prefix_more : (old now new : List (P × V)) (xs : List (K × V)) (i : ℕ) (x : K × V) (p : P) → i < length xs → x ≡ slice_index_or xs i x → now ≡ old ++ map (λ e. (to e.0, e.1)) (take i xs) → new ≡ now ++ (p, x.1) ∷ [] → p ≡ to x.0 → new ≡ old ++ map (λ e. (to e.0, e.1)) (take (i + 1) xs)
  prefix_more old now new xs i x p h e before pushed same =
      let f : K × V → P × V = λ e. (to e.0, e.1) in
      pushed
      ∙ ap (λ (es : List (P × V)). es ++ (p, x.1) ∷ []) before
      ∙ append_assoc old (map f (take i xs)) ((p, x.1) ∷ [])
      ∙ ap (λ (q : P). old ++ (map f (take i xs) ++ (q, x.1) ∷ [])) same
      ∙ ap (λ es. old ++ es) (sym (map_more f xs i x h e))

pub all_at : {X : Type 0} (P : X → Type 0) (xs : List X) (i : ℕ) (x : X) → i < length xs → x ≡ slice_index_or xs i x → AllByRecursion P xs → P x
all_at P [] i x h e all = absurd (omega (arith, h))
all_at P (y ∷ ys) zero x h e all = subst P (sym e) all.0
all_at P (y ∷ ys) (suc i) x h e all = all_at P ys i x (omega (arith, h)) e all.1

module _ {P K V : Type 0} (from : P → Option K) where
  pub keyed_more : (xs : List (P × V)) (i : ℕ) (x : P × V) → i < length xs → x ≡ slice_index_or xs i x → keyed_by from (take i xs) ++ keyed_by from (x ∷ []) ≡ keyed_by from (take (i + 1) xs)
  keyed_more xs i x h e = sym (filter_map-append (keyed from) (take i xs) (x ∷ [])) ∙ ap (keyed_by from) (sym (take_more xs i x h e))

module _ {P K N M : Type 0} (from : P → Option K) (present : M → Bool) where
  one_present : (key : Option K) (p : P) (v : Marked N M) (es : List (P × Marked N M)) → from p ≡ key → present v.mark ≡ true → ArePresent present (keyed_by from es) → ArePresent present (keyed_by from ((p, v) ∷ es))
  one_present None p v es e here all = subst (λ k. ArePresent present (cons_option (option_map (λ key. (key, v)) k) (keyed_by from es))) (sym e) all
  one_present (Some key) p v es e here all = subst (λ k. ArePresent present (cons_option (option_map (λ key. (key, v)) k) (keyed_by from es))) (sym e) (here, all)

  pub keyed_present : (es : List (P × Marked N M)) → ArePresent present es → ArePresent present (keyed_by from es)
  keyed_present [] all = tt
  keyed_present (e ∷ es) all = one_present (from e.0) e.0 e.1 es refl all.0 (keyed_present es all.1)

module _ {P K V : Type 0} (keys : Keys K) (from : P → Option K) where
  pub made_of : (entries : List (P × V)) (first moved list : List (K × V)) → first ≡ keyed_by from entries → IsPermutation first moved → AreKeys keys first → list ≡ moved → AreEntries keys list → IsMadeOf keys from entries list
  made_of entries first moved list e p each s are = record {
    permutation = subst (λ es. IsPermutation (keyed_by from entries) es) (sym s) (subst (λ es. IsPermutation es moved) e p);
    are = are;
    each = subst (λ es. AreKeys keys es) (sym s) (all_moved (λ x. IsKey keys x.0) first moved p each);
  }
