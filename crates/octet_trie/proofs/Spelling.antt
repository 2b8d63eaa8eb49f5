-- Keys of lists of numbers, spelled out.
use Rattle.std.proofs.Common.{◌≡◌, ℕ, ◌+◌, ◌<◌, ◌≤◌, true, List, [], ◌∷◌, ◌++◌, length, take, drop, refl, sym, ap, ◌∙◌, arith, length-append}
use Rattle.std.proofs.lemmas.List.{take_all, take_at, take-append-drop, drop_more, get_or_at}
use Rattle.octet_trie.specs.ListKeys.{octet_keys, symbols}
use Rattle.octet_trie.proofs.ListLaws.{same_from, from_same, from_short}
use Rattle.octet_trie.proofs.Stretches.{map_length}
use Rattle.trie_keys.specs.Keys.{Under}

pub length_symbols : (octets : List ℕ) → length (symbols octets) ≡ length octets
length_symbols octets = map_length (λ o. o + 2) octets

pub under_top : (top rest : List ℕ) (s : ℕ) → length top + (1 + length rest) ≤ 255 → Under octet_keys top s (top ++ (s ∷ rest))
under_top top rest s h =
    let len : length (top ++ (s ∷ rest)) ≡ length top + length (s ∷ rest) = length-append top (s ∷ rest) in
    record {
      valid = from_short 255 (length (top ++ (s ∷ rest))) (omega (arith, len));
      agrees = from_same _ _ (take_all (length top) top (omega arith) ∙ sym (take_at top (s ∷ rest) (length top) refl));
      longer = omega (arith, len);
      next = get_or_at top s rest 0 (length top) refl;
    }

-- what is under a key begins with it
pub spelled : (top key : List ℕ) (s : ℕ) → Under octet_keys top s key → key ≡ top ++ (s ∷ drop (length top + 1) key)
spelled top key s u =
    let front : top ≡ take (length top) key = sym (take_all (length top) top (omega arith)) ∙ same_from _ _ u.agrees in
    sym (take-append-drop (length top) key)
    ∙ ap (λ xs. xs ++ drop (length top) key) (sym front)
    ∙ ap (λ xs. top ++ xs) (drop_more key (length top) 0 u.longer)
    ∙ ap (λ x. top ++ (x ∷ drop (length top + 1) key)) u.next

pub own_under : (top : List ℕ) (s : ℕ) → length top < 255 → Under octet_keys top s (top ++ s ∷ [])
own_under top s h = under_top top [] s (omega arith)

pub valid_short : (key : List ℕ) → length key ≤ 255 → octet_keys.valid key ≡ true
valid_short key h = from_short 255 (length key) h

-- the octets of two keys, of which one begins with the other
pub plus_two : (x y : ℕ) → x + 2 ≡ y + 2 → x ≡ y
plus_two x y e = omega arith

pub unmapped : (xs ys : List ℕ) → symbols xs ≡ symbols ys → xs ≡ ys
unmapped [] [] e = refl
unmapped [] (y ∷ ys) e = cc e
unmapped (x ∷ xs) [] e = cc e
unmapped (x ∷ xs) (y ∷ ys) e =
    let head : x + 2 ≡ y + 2 = cc e in
    let rest : symbols xs ≡ symbols ys = cc e in
    λ i. plus_two x y head i ∷ unmapped xs ys rest i

pub symbols_append : (xs ys : List ℕ) → symbols (xs ++ ys) ≡ symbols xs ++ symbols ys
symbols_append [] ys = refl
symbols_append (x ∷ xs) ys = ap (λ zs. (x + 2) ∷ zs) (symbols_append xs ys)
