-- How the keys of two entries stand to each other.
use Rattle.std.proofs.Common.{◌≡◌, ℕ, ◌+◌, ◌<◌, Bool, true, false, List, [], ◌∷◌, refl, sym, ap, ◌∙◌, subst, arith}
use Rattle.std.specs.Cmp.{ranks, nat_cmp_is}
use Rattle.std.specs.Cmp.Lexicographic.{slice_cmp}
use Rattle.std.specs.Ordering.{MatchOrdering, nat_cmp, bool_cmp, ordering_then}
use Rattle.std.specs.declared.cmp.Ordering.{Ordering}
use Rattle.std.specs.declared.cmp.Ordering.TheVariants.{Less, Equal, Greater}
use Rattle.octet_trie.specs.ListKeys.{entry_key, end_symbol}

same_rank : (x y : ℕ) (r : Ordering) → nat_cmp x y ≡ r → nat_cmp (x + 2) (y + 2) ≡ r
same_rank x y Less e =
    let fact : x < y = subst (λ r. MatchOrdering r (x < y) (x ≡ y) (y < x)) e (ranks x y) in
    sym (nat_cmp_is (x + 2) (y + 2) Less (omega (arith, fact)))
same_rank x y Equal e =
    let fact : x ≡ y = subst (λ r. MatchOrdering r (x < y) (x ≡ y) (y < x)) e (ranks x y) in
    sym (nat_cmp_is (x + 2) (y + 2) Equal (omega (arith, fact)))
same_rank x y Greater e =
    let fact : y < x = subst (λ r. MatchOrdering r (x < y) (x ≡ y) (y < x)) e (ranks x y) in
    sym (nat_cmp_is (x + 2) (y + 2) Greater (omega (arith, fact)))

then_assoc : (a b c : Ordering) → ordering_then a (ordering_then b c) ≡ ordering_then (ordering_then a b) c
then_assoc Less b c = refl
then_assoc Equal b c = refl
then_assoc Greater b c = refl

ends : (w v : Bool) → ordering_then (nat_cmp (end_symbol w) (end_symbol v)) Equal ≡ bool_cmp w v
ends false false = refl
ends false true = refl
ends true false = refl
ends true true = refl

end_first : (w : Bool) (y : ℕ) → end_symbol w < y + 2
end_first true y = omega arith
end_first false y = omega arith

-- by their octets, and then by their wild cards
pub entry_order : (a b : List ℕ) (w v : Bool) → slice_cmp nat_cmp (entry_key a w) (entry_key b v) ≡ ordering_then (slice_cmp nat_cmp a b) (bool_cmp w v)
entry_order [] [] w v = ends w v
entry_order [] (y ∷ ys) w v = ap (λ o. ordering_then o (slice_cmp nat_cmp [] (entry_key ys v))) (sym (nat_cmp_is (end_symbol w) (y + 2) Less (end_first w y)))
entry_order (x ∷ xs) [] w v = ap (λ o. ordering_then o (slice_cmp nat_cmp (entry_key xs w) [])) (sym (nat_cmp_is (x + 2) (end_symbol v) Greater (end_first v x)))
entry_order (x ∷ xs) (y ∷ ys) w v =
    (λ i. ordering_then (same_rank x y (nat_cmp x y) refl i) (entry_order xs ys w v i))
    ∙ then_assoc (nat_cmp x y) (slice_cmp nat_cmp xs ys) (bool_cmp w v)
