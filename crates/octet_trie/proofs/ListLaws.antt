-- The laws of keys that are lists of numbers.
use Rattle.std.proofs.Common.{◌≡◌, ℕ, zero, suc, ◌+◌, ◌<◌, ◌≤◌, true, not, nat_lt, List, [], ◌∷◌, length, take, get_or, refl, sym, ap, ◌∙◌, arith}
use Rattle.std.proofs.lemmas.Bool.Decides.{nat_tests}
use Rattle.std.proofs.lemmas.Cmp.{nat_list_cmp_total, nat_cmp_total}
use Rattle.std.proofs.lemmas.List.{take_all, take-take, get_or-take}
use Rattle.std.proofs.lemmas.Map.Lookups.{exact_bytes}
use Rattle.std.proofs.lemmas.Slice.Eq.{bytes_eq-Decides}
use Rattle.std.specs.Cmp.{nat_cmp_is, tied_itself}
use Rattle.std.specs.Cmp.Lexicographic.{slice_cmp}
use Rattle.std.specs.Ordering.{nat_cmp, ordering_then}
use Rattle.std.specs.Str.{bytes_eq}
use Rattle.std.specs.declared.cmp.Ordering.TheVariants.{Less, Equal}
use Rattle.octet_trie.specs.ListKeys.{list_keys}
use Rattle.trie_keys.specs.Keys.{KeyLaws}

pub same_from : (xs ys : List ℕ) → bytes_eq xs ys ≡ true → xs ≡ ys
same_from xs ys e = (bytes_eq-Decides xs ys).0 e

pub from_same : (xs ys : List ℕ) → xs ≡ ys → bytes_eq xs ys ≡ true
from_same xs ys e = (bytes_eq-Decides xs ys).1 e

pub short_from : (w n : ℕ) → not (nat_lt w n) ≡ true → n ≤ w
short_from w n e = grind (arith, nat_tests)

pub from_short : (w n : ℕ) → n ≤ w → not (nat_lt w n) ≡ true
from_short w n h = grind (arith, nat_tests)

tied : (x y : ℕ) → x ≡ y → nat_cmp x y ≡ Equal
tied x y e = ap (nat_cmp x) (sym e) ∙ tied_itself nat_cmp_total x

heads : (x y : ℕ) (xs ys : List ℕ) → x ∷ xs ≡ y ∷ ys → x ≡ y
heads x y xs ys e = cc e

tails : (x y : ℕ) (xs ys : List ℕ) → x ∷ xs ≡ y ∷ ys → xs ≡ ys
tails x y xs ys e = cc e

first_less : (a b : List ℕ) → take (length a) a ≡ take (length a) b → length a < length b → slice_cmp nat_cmp a b ≡ Less
first_less [] [] e lt = absurd (omega arith)
first_less [] (y ∷ ys) e lt = refl
first_less (x ∷ xs) [] e lt = cc e
first_less (x ∷ xs) (y ∷ ys) e lt =
    ap (λ o. ordering_then o (slice_cmp nat_cmp xs ys)) (tied x y (heads x y _ _ e))
    ∙ first_less xs ys (tails x y _ _ e) (omega arith)

rises : (n : ℕ) (a b : List ℕ) → take n a ≡ take n b → get_or a n 0 < get_or b n 0 → slice_cmp nat_cmp a b ≡ Less
rises n [] [] e lt = absurd (omega arith)
rises n [] (y ∷ ys) e lt = refl
rises zero (x ∷ xs) [] e lt = absurd (omega arith)
rises zero (x ∷ xs) (y ∷ ys) e lt = ap (λ o. ordering_then o (slice_cmp nat_cmp xs ys)) (sym (nat_cmp_is x y Less lt))
rises (suc n) (x ∷ xs) [] e lt = cc e
rises (suc n) (x ∷ xs) (y ∷ ys) e lt =
    ap (λ o. ordering_then o (slice_cmp nat_cmp xs ys)) (tied x y (heads x y _ _ e))
    ∙ rises n xs ys (tails x y _ _ e) lt

whole_same : (a b : List ℕ) → length a ≡ length b → take (length a) a ≡ take (length a) b → a ≡ b
whole_same a b len e = sym (take_all (length a) a (omega arith)) ∙ e ∙ take_all (length a) b (omega arith)

at_same : (n : ℕ) (a b : List ℕ) → take (n + 1) a ≡ take (n + 1) b → get_or a n 0 ≡ get_or b n 0
at_same n a b e = sym (get_or-take (n + 1) a n 0 (omega arith)) ∙ ap (λ xs. get_or xs n 0) e ∙ get_or-take (n + 1) b n 0 (omega arith)

fewer_same : (m n : ℕ) (a b : List ℕ) → m ≤ n → take n a ≡ take n b → take m a ≡ take m b
fewer_same m n a b h e = sym (take-take m n a h) ∙ ap (take m) e ∙ take-take m n b h

pub list_laws : (width : ℕ) → KeyLaws (list_keys width)
list_laws width = record {
  total = nat_list_cmp_total;
  same = λ a b e. exact_bytes a b e;
  whole = λ a b va vb len e. whole_same a b len (same_from (take (length a) a) (take (length a) b) e);
  shorter_first = λ a b va e lt. first_less a b (same_from (take (length a) a) (take (length a) b) e) lt;
  symbols_rise = λ n a b e lt. rises n a b (same_from (take n a) (take n b) e) lt;
  itself = λ n a. from_same (take n a) (take n a) refl;
  back = λ n a b e. from_same (take n b) (take n a) (sym (same_from (take n a) (take n b) e));
  along = λ n a b c e f. from_same (take n a) (take n c) (same_from (take n a) (take n b) e ∙ same_from (take n b) (take n c) f);
  fewer = λ m n a b h e. from_same (take m a) (take m b) (fewer_same m n a b h (same_from (take n a) (take n b) e));
  narrow = λ a e. short_from width (length a) e;
  symbols_agree = λ n a b e. at_same n a b (same_from (take (n + 1) a) (take (n + 1) b) e);
}
