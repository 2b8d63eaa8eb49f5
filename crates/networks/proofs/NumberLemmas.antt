-- The number of groups, and what code counts.
use Rattle.std.proofs.Common.{◌≡◌, ℕ, zero, suc, ◌+◌, ◌-◌, ◌*◌, ◌^◌, ◌<◌, ◌≤◌, Bool, true, false, not, ◌==◌, List, [], ◌∷◌, ◌++◌, length, replicate, Option, Some, None, nat_lt, if◌then◌else◌, refl, sym, ap, zero-add, ◌∙◌, arith, lt-ltb, le-ltb, ne_eqb, inl, inr, length-append}
use Rattle.std.specs.List.{fold}
use Rattle.std.specs.Option.{option_and_then}
use Rattle.std.proofs.Math.Nat.{add-mul, mul_assoc, mul_comm}
use Rattle.std.proofs.lemmas.Bool.{cases_lt}
use Rattle.std.proofs.lemmas.List.{length-replicate}
use Rattle.std.proofs.lemmas.List.Sums.{fold-append}
use Rattle.std.proofs.lemmas.Nat.{pow-add}
use Rattle.networks.specs.declared.groups.Groups.{Groups}
use Rattle.networks.specs.Groups.{no_groups, with_groups, whole_number, filled_number}
use Rattle.networks.specs.Optional.{◌>>=◌, none_if}
use Rattle.networks.specs.V6.{filled, number_of_groups}

abbrev number_behind : ℕ → List ℕ → ℕ
number_behind number groups = fold (λ number group. number * 65536 + group) number groups

-- groups behind a number
behind_is : (n : ℕ) (groups : List ℕ) → number_behind n groups ≡ n * 2 ^ (16 * length groups) + number_of_groups groups
behind_is n [] = omega arith
behind_is n (group ∷ groups) =
    let p : ℕ = 2 ^ (16 * length groups) in
    let e : 16 * suc (length groups) ≡ 16 * length groups + 16 = omega arith in
    let q : 2 ^ (16 * suc (length groups)) ≡ p * 65536 = ap (λ (k : ℕ). 2 ^ k) e ∙ pow-add 2 (16 * length groups) 16 in
    let here : number_behind (n * 65536 + group) groups ≡ (n * 65536 + group) * p + number_of_groups groups = behind_is (n * 65536 + group) groups in
    let alone : number_behind (0 * 65536 + group) groups ≡ (0 * 65536 + group) * p + number_of_groups groups = behind_is (0 * 65536 + group) groups in
    let a : (n * 65536 + group) * p ≡ n * 65536 * p + group * p = add-mul (n * 65536) group p in
    let b : n * 65536 * p ≡ n * (p * 65536) = mul_assoc n 65536 p ∙ ap (λ (k : ℕ). n * k) (mul_comm 65536 p) in
    let d : number_behind (0 * 65536 + group) groups ≡ group * p + number_of_groups groups = alone ∙ ap (λ (k : ℕ). k * p + number_of_groups groups) (zero-add group) in
    here ∙ joined (n * 65536 * p) (n * 2 ^ (16 * suc (length groups))) (group * p) (number_of_groups groups) _ _ a (b ∙ ap (λ (k : ℕ). n * k) (sym q)) d
  where
    joined : (x y g rest whole other : ℕ) → whole ≡ x + g → x ≡ y → other ≡ g + rest → whole + rest ≡ y + other
    joined x y g rest whole other e f h = omega arith

zeros_are : (count : ℕ) → number_of_groups (replicate count 0) ≡ 0
zeros_are zero = refl
zeros_are (suc count) = zeros_are count

filled_is : (before after : List ℕ) → length before + length after ≤ 7 → number_of_groups (filled before after) ≡ number_of_groups before * 2 ^ (128 - 16 * length before) + number_of_groups after
filled_is before after few =
    let zeros : List ℕ = replicate (8 - (length before + length after)) 0 in
    let count : length (zeros ++ after) ≡ 8 - (length before + length after) + length after = length-append zeros after ∙ ap (λ (k : ℕ). k + length after) (length-replicate (8 - (length before + length after)) 0) in
    let k : 16 * length (zeros ++ after) ≡ 128 - 16 * length before = omega (arith, count) in
    let last : number_of_groups (zeros ++ after) ≡ number_of_groups after = fold-append (λ number group. number * 65536 + group) 0 zeros after ∙ ap (λ (n : ℕ). number_behind n after) (zeros_are (8 - (length before + length after))) in
    fold-append (λ number group. number * 65536 + group) 0 before (zeros ++ after)
    ∙ behind_is (number_of_groups before) (zeros ++ after)
    ∙ ap (λ (e : ℕ). number_of_groups before * 2 ^ e + number_of_groups (zeros ++ after)) k
    ∙ ap (λ (n : ℕ). number_of_groups before * 2 ^ (128 - 16 * length before) + n) last

-- at most eight groups are counted
counted : (g : Groups) (groups : List ℕ) (count : ℕ) → g.count + length groups ≡ count → count ≤ 8 → with_groups g groups ≡ Some (record { number = number_behind g.number groups; count = count })
counted g [] count e few = let same : g.count ≡ count = omega arith in ap (λ (n : ℕ). let o : Option Groups = Some (record { number = g.number; count = n }) in o) same
counted g (group ∷ groups) count e few =
    let more : Groups = record { number = g.number * 65536 + group; count = g.count + 1 } in
    let room : nat_lt g.count 8 ≡ true = lt-ltb g.count 8 (omega arith) in
    ap (λ (b : Bool). (if b then Some more else None) >>= (λ m. with_groups m groups)) room ∙ counted more groups count (omega arith) few

-- and no more
too_many : (g : Groups) (groups : List ℕ) → g.count ≤ 8 → 8 < g.count + length groups → with_groups g groups ≡ None
too_many g [] few many = absurd (omega arith)
too_many g (group ∷ groups) few many =
    let more : Groups = record { number = g.number * 65536 + group; count = g.count + 1 } in
    elim (cases_lt g.count 8) [
      | inl lt ↦ ap (λ (b : Bool). (if b then Some more else None) >>= (λ m. with_groups m groups)) (lt-ltb g.count 8 lt) ∙ too_many more groups (omega arith) (omega arith)
      | inr le ↦ ap (λ (b : Bool). (if b then Some more else None) >>= (λ m. with_groups m groups)) (le-ltb g.count 8 le)
    ]

abbrev summed : List ℕ → Groups
summed groups = record { number = number_of_groups groups; count = length groups }

all_counted : (groups : List ℕ) → length groups ≤ 8 → with_groups no_groups groups ≡ Some (summed groups)
all_counted groups few = counted no_groups groups (length groups) (omega arith) few

-- eight groups
by_test : (b : Bool) (n : ℕ) → (if b then Some n else None) ≡ none_if (not b) >>= (λ u. Some n)
by_test true n = refl
by_test false n = refl

abbrev pub whole_by : Option (List ℕ) → Option ℕ
whole_by read = read >>= (λ groups. none_if (not (length groups == 8)) >>= (λ u. Some (number_of_groups groups)))

pub whole_is : (read : Option (List ℕ)) → option_and_then whole_number (option_and_then (with_groups no_groups) read) ≡ whole_by read
whole_is None = refl
whole_is (Some groups) =
    elim (cases_lt 8 (length groups)) [
      | inl many ↦ ap (option_and_then whole_number) (too_many no_groups groups (omega arith) (omega arith)) ∙ sym (ap (λ (b : Bool). none_if (not b) >>= (λ u. Some (number_of_groups groups))) (ne_eqb (length groups) 8 (λ e. absurd (omega arith))))
      | inr few ↦ ap (option_and_then whole_number) (all_counted groups few) ∙ by_test (length groups == 8) (number_of_groups groups)
    ]

-- groups on both sides of `::`
abbrev pub elided_by : Option (List ℕ) → Option (List ℕ) → Option ℕ
elided_by head tail = head >>= (λ before. tail >>= (λ after. none_if (nat_lt 7 (length before + length after)) >>= (λ u. Some (number_of_groups (filled before after)))))

abbrev pub filled_by : Option Groups → Option Groups → Option ℕ
filled_by before after = option_and_then (λ b. option_and_then (λ a. filled_number b a) after) before

none_after : (before : Option Groups) → filled_by before None ≡ None
none_after None = refl
none_after (Some b) = refl

pub elided_is : (head tail : Option (List ℕ)) → filled_by (option_and_then (with_groups no_groups) head) (option_and_then (with_groups no_groups) tail) ≡ elided_by head tail
elided_is None tail = refl
elided_is (Some before) None = none_after (with_groups no_groups before)
elided_is (Some before) (Some after) =
    elim (cases_lt 7 (length before + length after)) [
      | inl many ↦ full before after many ∙ sym (ap (λ (b : Bool). none_if b >>= (λ u. Some (number_of_groups (filled before after)))) (lt-ltb 7 (length before + length after) many))
      | inr few ↦
          ap (λ (o : Option Groups). filled_by o (with_groups no_groups after)) (all_counted before (omega arith))
          ∙ ap (λ (o : Option Groups). filled_by (Some (summed before)) o) (all_counted after (omega arith))
          ∙ ap (λ (b : Bool). if b then None else Some (number_of_groups before * 2 ^ (128 - 16 * length before) + number_of_groups after)) (le-ltb 7 (length before + length after) few)
          ∙ ap (λ (n : ℕ). let o : Option ℕ = Some n in o) (sym (filled_is before after few))
          ∙ sym (ap (λ (b : Bool). none_if b >>= (λ u. Some (number_of_groups (filled before after)))) (le-ltb 7 (length before + length after) few))
    ]
  where
    full : (before after : List ℕ) → 7 < length before + length after → filled_by (with_groups no_groups before) (with_groups no_groups after) ≡ None
    full before after many =
        elim (cases_lt 8 (length before)) [
          | inl long ↦ ap (λ (o : Option Groups). filled_by o (with_groups no_groups after)) (too_many no_groups before (omega arith) (omega arith))
          | inr short ↦ elim (cases_lt 8 (length after)) [
            | inl long ↦ ap (λ (o : Option Groups). filled_by (with_groups no_groups before) o) (too_many no_groups after (omega arith) (omega arith)) ∙ none_after (with_groups no_groups before)
            | inr also ↦
                ap (λ (o : Option Groups). filled_by o (with_groups no_groups after)) (all_counted before short)
                ∙ ap (λ (o : Option Groups). filled_by (Some (summed before)) o) (all_counted after also)
                ∙ ap (λ (b : Bool). if b then None else Some (number_of_groups before * 2 ^ (128 - 16 * length before) + number_of_groups after)) (lt-ltb 7 (length before + length after) many)
          ]
        ]

pub elided_when : (head tail : Option (List ℕ)) (before after : Option Groups) → before ≡ option_and_then (with_groups no_groups) head → after ≡ option_and_then (with_groups no_groups) tail → filled_by before after ≡ elided_by head tail
elided_when head tail before after e f = ap (λ (o : Option Groups). filled_by o after) e ∙ ap (λ (o : Option Groups). filled_by (option_and_then (with_groups no_groups) head) o) f ∙ elided_is head tail
