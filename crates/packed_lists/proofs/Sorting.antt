-- Keys that were sorted.
use Rattle.std.proofs.Common.{◌≡◌, ℕ, ◌+◌, ◌<◌, Bool, true, false, cond, List, [], ◌∷◌, length, map, refl, sym, ap, ◌∙◌, arith, not, ◌&&◌}
use Rattle.std.proofs.lemmas.Cmp.{nat_list_cmp_total}
use Rattle.std.proofs.lemmas.List.{get_or-map, length-map}
use Rattle.std.proofs.lemmas.Map.Text.{is_eq-slice_cmp}
use Rattle.std.specs.Cmp.Lexicographic.{slice_cmp}
use Rattle.std.specs.List.{filter}
use Rattle.std.specs.List.Sorted.{IsSortedBy, ties}
use Rattle.std.specs.Ordering.{nat_cmp, is_lt, is_eq, ordering_reverse}
use Rattle.std.specs.Str.{bytes_eq}
use Rattle.std.specs.declared.cmp.Ordering.{Ordering}
use Rattle.std.specs.declared.cmp.Ordering.TheVariants.{Less, Equal, Greater}
use Rattle.packed_lists.specs.Keyed.{PlainKeyed, AreInOrder, numbers_with}
use Rattle.packed_lists.specs.KeysSeen.{keyed_seen}
use Rattle.packed_lists.specs.declared.keyed.Keyed.{Keyed}

-- whether the key of one precedes that of another
abbrev pub precedes : Keyed → Keyed → Bool
precedes a b = is_lt (slice_cmp nat_cmp a.key.now b.key.now)

-- a key that is lent with its number
abbrev lent : PlainKeyed → Keyed
lent k = record { key = record { ref_ptr = (0, 0); now = k.key }; number = k.number }

tie_is : (o : Ordering) → (not (is_lt o) && not (is_lt (ordering_reverse o))) ≡ is_eq o
tie_is Less = refl
tie_is Equal = refl
tie_is Greater = refl

ties_are : (a b : Keyed) → ties precedes a b ≡ bytes_eq a.key.now b.key.now
ties_are a b =
    ap (λ o. not (precedes a b) && not (is_lt o)) (nat_list_cmp_total.antisymm b.key.now a.key.now)
    ∙ tie_is (slice_cmp nat_cmp a.key.now b.key.now)
    ∙ is_eq-slice_cmp a.key.now b.key.now

picked : (b : Bool) (k : Keyed) (numbers : List ℕ) (ks : List Keyed) → numbers ≡ map (λ k. k.number) ks
    → cond b (k.number ∷ numbers) numbers ≡ map (λ k. k.number) (cond b (k ∷ ks) ks)
picked true k numbers ks e = ap (λ l. k.number ∷ l) e
picked false k numbers ks e = e

numbers_are : (key : PlainKeyed) (ks : List Keyed) → numbers_with key.key (map keyed_seen ks) ≡ map (λ k. k.number) (filter (ties precedes (lent key)) ks)
numbers_are key [] = refl
numbers_are key (k ∷ ks) =
    ap (λ b. cond b (k.number ∷ numbers_with key.key (map keyed_seen ks)) (numbers_with key.key (map keyed_seen ks))) (sym (ties_are (lent key) k))
    ∙ picked (ties precedes (lent key) k) k (numbers_with key.key (map keyed_seen ks)) (filter (ties precedes (lent key)) ks) (numbers_are key ks)

-- a sort in which ties keep their order keeps the numbers of each key
pub numbers_kept : (key : List ℕ) (old new : List Keyed) → ((x : Keyed) → filter (ties precedes x) new ≡ filter (ties precedes x) old)
    → numbers_with key (map keyed_seen new) ≡ numbers_with key (map keyed_seen old)
numbers_kept key old new h =
    let probe : PlainKeyed = record { key = key; number = 0 } in
    numbers_are probe new ∙ ap (map (λ k. k.number)) (h (lent probe)) ∙ sym (numbers_are probe old)

-- in order, as contracts see it
pub in_order : (ks : List Keyed) → IsSortedBy precedes ks → AreInOrder (map keyed_seen ks)
in_order ks h = λ k d low lt.
    let within : k + 1 < length ks = omega (arith, lt, length-map ks keyed_seen) in
    (λ i. is_lt (slice_cmp nat_cmp (get_or-map keyed_seen ks (k + 1) (lent d) d within i).key (get_or-map keyed_seen ks k (lent d) d (omega arith) i).key))
    ∙ h k (lent d) low within
