-- The run that `zz` stands for is the first of the longest.
use Rattle.std.proofs.Common.{◌≡◌, ◌≢◌, ℕ, zero, suc, ◌+◌, ◌-◌, ◌<◌, ◌≤◌, ◌⊎◌, inl, inr, Bool, true, false, List, [], ◌∷◌, ◌++◌, length, take, drop, map, get_or, refl, sym, ap, ◌∙◌, subst, arith, eqb-true, length-drop}
use Rattle.std.specs.Prelude.{codes, nat_lt, ◌==◌, if◌then◌else◌}
use Rattle.std.proofs.lemmas.Bool.{ltb-true, ltb-false}
use Rattle.std.proofs.lemmas.List.{get_or-drop}
use Rattle.trigger_codec.specs.Canonical.{Run, hexadecimal, longest_run, word_labels, zeros_first}
use Rattle.trigger_codec.specs.Runs.{IsRun, IsChosenOver, HasZz, HasNoZz}
use Rattle.trigger_codec.proofs.RunLemmas.{longest_within, zeros_more}

-- the zeros that a list begins with
zeros_are_by : (word : ℕ) (words : List ℕ) → ((k : ℕ) → k < zeros_first words → get_or words k 0 ≡ 0) → (b : Bool) → (word == 0) ≡ b → (k : ℕ) → k < (if b then zeros_first words + 1 else 0) → get_or (word ∷ words) k 0 ≡ 0
zeros_are_by word words others false e k h = absurd (omega (arith, h))
zeros_are_by word words others true e zero h = eqb-true word 0 e
zeros_are_by word words others true e (suc k) h = others k (omega (arith, h))

zeros_are : (words : List ℕ) (k : ℕ) → k < zeros_first words → get_or words k 0 ≡ 0
zeros_are [] k h = absurd (omega (arith, h))
zeros_are (word ∷ words) k h = zeros_are_by word words (zeros_are words) (word == 0) refl k h

-- the word behind them
zeros_end_by : (word : ℕ) (words : List ℕ) → (zeros_first words < length words → get_or words (zeros_first words) 0 ≢ 0) → (b : Bool) → (word == 0) ≡ b
    → (if b then zeros_first words + 1 else 0) < length (word ∷ words) → get_or (word ∷ words) (if b then zeros_first words + 1 else 0) 0 ≢ 0
zeros_end_by word words others false e h is_zero = let f : (word == 0) ≡ true = ap (λ (w : ℕ). w == 0) is_zero in cc
zeros_end_by word words others true e h is_zero =
    let s : zeros_first words + 1 ≡ suc (zeros_first words) = omega arith in
    others (omega (arith, h)) (sym (ap (λ (k : ℕ). get_or (word ∷ words) k 0) s) ∙ is_zero)

zeros_end_at : (words : List ℕ) → zeros_first words < length words → get_or words (zeros_first words) 0 ≢ 0
zeros_end_at [] h = absurd (omega (arith, h))
zeros_end_at (word ∷ words) h = zeros_end_by word words (zeros_end_at words) (word == 0) refl h

-- a list that begins with so many zeros
zeros_count : (words : List ℕ) (n : ℕ) → n ≤ length words → ((k : ℕ) → k < n → get_or words k 0 ≡ 0) → n ≤ zeros_first words
zeros_count words zero few are = omega arith
zeros_count [] (suc n) few are = absurd (omega (arith, few))
zeros_count (word ∷ words) (suc n) few are =
    let test : (word == 0) ≡ true = ap (λ (w : ℕ). w == 0) (are 0 (omega arith)) in
    let more : n ≤ zeros_first words = zeros_count words n (omega (arith, few)) (λ k h. are (suc k) (omega (arith, h))) in
    rw test (omega (arith, more))

none_behind : (p : ℕ) → zeros_first (drop p []) ≡ 0
none_behind zero = refl
none_behind (suc p) = refl

-- what the longest run is, by the zeros from each place on
record Longest (place : ℕ) (words : List ℕ) (run : Run) : Type 0 where
  offset : ℕ
  is_place : run.place ≡ place + offset
  is_long : run.long ≡ zeros_first (drop offset words)
  before : (p : ℕ) → p < offset → zeros_first (drop p words) < run.long
  all : (p : ℕ) → zeros_first (drop p words) ≤ run.long

first_longest : (place word : ℕ) (words : List ℕ) (other : Run) → Longest (place + 1) words other → other.long ≤ zeros_first (word ∷ words) → Longest place (word ∷ words) (record { place = place; long = zeros_first (word ∷ words) })
first_longest place word words other l h = record {
  offset = 0;
  is_place = omega arith;
  is_long = refl;
  before = λ p lt. absurd (omega (arith, lt));
  all = at;
}
  where
    at : (p : ℕ) → zeros_first (drop p (word ∷ words)) ≤ zeros_first (word ∷ words)
    at zero = omega arith
    at (suc p) = omega (arith, l.all p, h)

later_longest : (place word : ℕ) (words : List ℕ) (other : Run) → Longest (place + 1) words other → zeros_first (word ∷ words) < other.long → Longest place (word ∷ words) other
later_longest place word words other l h = record {
  offset = suc l.offset;
  is_place = omega (arith, l.is_place);
  is_long = l.is_long;
  before = earlier;
  all = at;
}
  where
    earlier : (p : ℕ) → p < suc l.offset → zeros_first (drop p (word ∷ words)) < other.long
    earlier zero lt = h
    earlier (suc p) lt = l.before p (omega (arith, lt))

    at : (p : ℕ) → zeros_first (drop p (word ∷ words)) ≤ other.long
    at zero = omega (arith, h)
    at (suc p) = l.all p

longest_by : (place word : ℕ) (words : List ℕ) (other : Run) → Longest (place + 1) words other → (b : Bool) → nat_lt (zeros_first (word ∷ words)) other.long ≡ b
    → Longest place (word ∷ words) (if b then other else record { place = place; long = zeros_first (word ∷ words) })
longest_by place word words other l true e = later_longest place word words other l (ltb-true _ _ e)
longest_by place word words other l false e = first_longest place word words other l (ltb-false _ _ e)

longest : (place : ℕ) (words : List ℕ) → Longest place words (longest_run place words)
longest place [] = record {
  offset = 0;
  is_place = omega arith;
  is_long = refl;
  before = λ p lt. absurd (omega (arith, lt));
  all = λ p. omega (arith, none_behind p);
}
longest place (word ∷ words) = longest_by place word words (longest_run (place + 1) words) (longest (place + 1) words) (nat_lt (zeros_first (word ∷ words)) (longest_run (place + 1) words).long) refl

-- a run has as many zeros from its place on, or fewer
run_zeros : (words : List ℕ) (other : Run) → IsRun words other → other.long ≤ zeros_first (drop other.place words)
run_zeros words other r =
    zeros_count (drop other.place words) other.long (omega (arith, r.within, length-drop other.place words))
    (λ k h. get_or-drop other.place words k 0 ∙ r.zeros (other.place + k) (omega arith) (omega (arith, h)))

longest_is : (words : List ℕ) (run : Run) → run ≡ longest_run 0 words → Longest 0 words run
longest_is words run e = subst (λ (r : Run). Longest 0 words r) (sym e) (longest 0 words)

longest_fits : (words : List ℕ) (run : Run) → run ≡ longest_run 0 words → run.place + run.long ≤ length words
longest_fits words run e = let w = longest_within 0 words in omega (arith, w, ap (λ (r : Run). r.place + r.long) e)

-- the zeros at the place of the longest run
at_place : (words : List ℕ) (run : Run) → Longest 0 words run → run.long ≡ zeros_first (drop run.place words)
at_place words run l = let e : run.place ≡ l.offset = omega (arith, l.is_place) in rw e l.is_long

longest_is_run : (words : List ℕ) (run : Run) → Longest 0 words run → run.place + run.long ≤ length words → 1 ≤ run.long → IsRun words run
longest_is_run words run l fits some =
    let long = at_place words run l in
    record {
      some = some;
      within = fits;
      zeros = λ place from to.
          let e : run.place + (place - run.place) ≡ place = omega (arith, from) in
          sym (ap (λ (k : ℕ). get_or words k 0) e) ∙ sym (get_or-drop run.place words (place - run.place) 0)
          ∙ zeros_are (drop run.place words) (place - run.place) (omega (arith, from, to, long));
      before = λ place next is_zero.
          let fits' : place < length words = omega (arith, next, fits, some) in
          let more : zeros_first (drop place words) ≡ zeros_first (drop (place + 1) words) + 1 = zeros_more words place fits' is_zero in
          let shorter : zeros_first (drop place words) < run.long = l.before place (omega (arith, next, l.is_place)) in
          let same : zeros_first (drop (place + 1) words) ≡ run.long = rw next (sym long) in
          omega (arith, more, shorter, same);
      behind = λ lt is_zero.
          zeros_end_at (drop run.place words) (omega (arith, lt, long, length-drop run.place words))
          (get_or-drop run.place words (zeros_first (drop run.place words)) 0 ∙ ap (λ (k : ℕ). get_or words (run.place + k) 0) (sym long) ∙ is_zero);
    }

longest_is_chosen : (words : List ℕ) (run other : Run) → Longest 0 words run → IsRun words other → IsChosenOver run other
longest_is_chosen words run other l r = by_place (nat_lt other.place run.place) refl
  where
    zeros : other.long ≤ zeros_first (drop other.place words)
    zeros = run_zeros words other r

    by_long : (b : Bool) → nat_lt other.long run.long ≡ b → run.place ≤ other.place → IsChosenOver run other
    by_long true e h = inl (ltb-true _ _ e)
    by_long false e h = let most = l.all other.place in let less : run.long ≤ other.long = ltb-false _ _ e in inr (omega (arith, zeros, most, less), h)

    by_place : (b : Bool) → nat_lt other.place run.place ≡ b → IsChosenOver run other
    by_place true e =
        let early : other.place < run.place = ltb-true _ _ e in
        let less = l.before other.place (omega (arith, early, l.is_place)) in
        inl (omega (arith, zeros, less))
    by_place false e = by_long (nat_lt other.long run.long) refl (ltb-false _ _ e)

abbrev labels_by : List ℕ → Run → Bool → List (List ℕ)
labels_by words run b = if b then map hexadecimal words else map hexadecimal (take run.place words) ++ codes "zz" ∷ map hexadecimal (drop (run.place + run.long) words)

shortened_by : (words : List ℕ) (run : Run) (b : Bool) → run ≡ longest_run 0 words → nat_lt run.long 2 ≡ b → HasZz words (labels_by words run b) ⊎ HasNoZz words (labels_by words run b)
shortened_by words run true is e =
    let l = longest_is words run is in
    let few : run.long < 2 = ltb-true _ _ e in
    inr (record { short = λ other r. (let z = run_zeros words other r in let most = l.all other.place in omega (arith, z, most, few)); are_labels = refl })
shortened_by words run false is e =
    let l = longest_is words run is in
    let two : 2 ≤ run.long = ltb-false _ _ e in
    inl (record {
      run = run;
      is_longest = record { is_run = longest_is_run words run l (longest_fits words run is) (omega (arith, two)); is_chosen = λ other r. longest_is_chosen words run other l r };
      two = two;
      are_labels = refl;
    })

pub first_longest_is_zz : (words : List ℕ) → HasZz words (word_labels words) ⊎ HasNoZz words (word_labels words)
first_longest_is_zz words = shortened_by words (longest_run 0 words) (nat_lt (longest_run 0 words).long 2) refl refl
