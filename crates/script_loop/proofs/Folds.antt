-- Runs of lines, one after another.
use Rattle.std.proofs.Common.{◌≡◌, ℕ, ◌+◌, ◌<◌, ◌≤◌, List, [], ◌∷◌, ◌++◌, Ok, Err, Result, refl, sym, ◌∙◌, ap, append_assoc, length, nat_lt, true, false, arith}
use Rattle.std.specs.Prelude.{Bool, if◌then◌else◌}
use Rattle.std.proofs.lemmas.Bool.Decides.{nat_tests}
use Rattle.script_loop.specs.declared.limits.TheConstants.{LINE_BYTES, LINES}
use Rattle.script_loop.specs.Fold.{Run, run_of, run_on, line_outcome, counting_on, why_unread}

module _ {M W : Type 0} where
  -- what is output before goes before
  abbrev pub after : List ℕ → Run M W → Run M W
  after written run = (written ++ run.0, run.1)

  -- no line after it is taken
  abbrev refused : W → Result ((ℕ × M) × List ℕ) W
  refused why = Err why

  after-after : (first next : List ℕ) (run : Run M W) → after first (after next run) ≡ after (first ++ next) run
  after-after first next run = ap (λ (l : List ℕ). (l, run.1)) (sym (append_assoc first next run.0))

module _ {M W : Type 0} (too_many too_long : W) (step : M → List ℕ → Result (M × List ℕ) W) where
  on-append : (number : ℕ) (stepped : Result ((ℕ × M) × List ℕ) W) (lines more : List (List ℕ)) (new : ℕ × M) (written : List ℕ)
      → ((old : ℕ × M) (w : List ℕ) → run_of too_many too_long step old lines ≡ (w, Ok new) → run_of too_many too_long step old (lines ++ more) ≡ after w (run_of too_many too_long step new more))
      → run_on number stepped (λ next. run_of too_many too_long step next lines) ≡ (written, Ok new)
      → run_on number stepped (λ next. run_of too_many too_long step next (lines ++ more)) ≡ after written (run_of too_many too_long step new more)
  on-append number (Ok next) lines more new written goes is =
      let w : List ℕ = (run_of too_many too_long step next.0 lines).0 in
      let end : run_of too_many too_long step next.0 lines ≡ (w, Ok new) = ap (λ (v : Result (ℕ × M) (ℕ × W)). (w, v)) (ap (λ (r : Run M W). r.1) is) in
      ap (λ (r : Run M W). after next.1 r) (goes next.0 w end) ∙ after-after next.1 w (run_of too_many too_long step new more) ∙ ap (λ (l : List ℕ). after l (run_of too_many too_long step new more)) (ap (λ (r : Run M W). r.0) is)
  on-append number (Err why) lines more new written goes is =
      let refused : Result (ℕ × M) (ℕ × W) = Err (number, why) in
      let clash : refused ≡ Ok new = ap (λ (r : Run M W). r.1) is in
      absurd (cc)

  -- a run goes on where its first lines left it
  pub run_of-append : (lines more : List (List ℕ)) (old new : ℕ × M) (written : List ℕ) → run_of too_many too_long step old lines ≡ (written, Ok new) → run_of too_many too_long step old (lines ++ more) ≡ after written (run_of too_many too_long step new more)
  run_of-append [] more old new written is =
      let was : Result (ℕ × M) (ℕ × W) = Ok old in
      let end : was ≡ Ok new = ap (λ (r : Run M W). r.1) is in
      let same : old ≡ new = cc in
      let none : [] ≡ written = ap (λ (r : Run M W). r.0) is in
      ap (λ (s : ℕ × M). run_of too_many too_long step s more) same ∙ ap (λ (l : List ℕ). after l (run_of too_many too_long step new more)) none
  run_of-append (line ∷ lines) more old new written is =
      on-append old.0 (line_outcome too_many too_long step old line) lines more new written (λ o w e. run_of-append lines more o new w e) is

  pub run_of-refused : (old : ℕ × M) (line : List ℕ) (lines : List (List ℕ)) (why : W) → line_outcome too_many too_long step old line ≡ Err why → run_of too_many too_long step old (line ∷ lines) ≡ ([], Err (old.0, why))
  run_of-refused old line lines why is = ap (λ (s : Result ((ℕ × M) × List ℕ) W). run_on old.0 s (λ next. run_of too_many too_long step next lines)) is

  pub run_of-taken : (old new : ℕ × M) (line written : List ℕ) (lines : List (List ℕ)) → line_outcome too_many too_long step old line ≡ Ok (new, written) → run_of too_many too_long step old (line ∷ lines) ≡ after written (run_of too_many too_long step new lines)
  run_of-taken old new line written lines is = ap (λ (s : Result ((ℕ × M) × List ℕ) W). run_on old.0 s (λ next. run_of too_many too_long step next lines)) is

  -- a line that no bound refuses is the machine's
  pub line_outcome-taken : (number : ℕ) (old new : M) (line written : List ℕ) → number ≤ 4294967295 → length line ≤ 200000 → step old line ≡ Ok (new, written) → line_outcome too_many too_long step (number, old) line ≡ Ok ((number + 1, new), written)
  line_outcome-taken number old new line written few short is =
      let not_many : nat_lt 4294967295 number ≡ false = grind (arith, nat_tests) in
      let not_long : nat_lt LINE_BYTES (length line) ≡ false = grind (arith, nat_tests) in
      rw (not_many, not_long, is) refl

  unread-is : (many : Bool) → (if many then Err too_many else Err too_long) ≡ refused {M = M} (if many then too_many else too_long)
  unread-is true = refl
  unread-is false = refl

  -- a line that is too long is refused, first for its number
  pub line_outcome-long : (old : ℕ × M) (line : List ℕ) → 200000 < length line → line_outcome too_many too_long step old line ≡ Err (why_unread too_many too_long old.0)
  line_outcome-long old line long = let test : nat_lt LINE_BYTES (length line) ≡ true = grind (arith, nat_tests) in rw test (unread-is (nat_lt 4294967295 old.0))

  number_in : Result (ℕ × M) (ℕ × W) → ℕ
  number_in (Ok state) = state.0
  number_in (Err bad) = 0

  next_number : Result ((ℕ × M) × List ℕ) W → ℕ
  next_number (Ok next) = next.0.0
  next_number (Err why) = 0

  -- a line that is taken is one line
  one-counts : (many long : Bool) (number : ℕ) (stepped : Result (M × List ℕ) W) (next : (ℕ × M) × List ℕ)
      → (if many then Err too_many else (if long then Err too_long else counting_on number stepped)) ≡ Ok next → next.0.0 ≡ number + 1
  unfolding next_number
  one-counts true long number stepped next is = absurd (cc)
  one-counts false true number stepped next is = absurd (cc)
  one-counts false false number (Ok x) next is = sym (ap next_number is)
  one-counts false false number (Err why) next is = absurd (cc)

  on-counts : (number : ℕ) (stepped : Result ((ℕ × M) × List ℕ) W) (lines : List (List ℕ)) (new : ℕ × M) (written : List ℕ)
      → ((next : (ℕ × M) × List ℕ) → stepped ≡ Ok next → next.0.0 ≡ number + 1)
      → ((old : ℕ × M) (w : List ℕ) → run_of too_many too_long step old lines ≡ (w, Ok new) → new.0 ≡ old.0 + length lines)
      → run_on number stepped (λ next. run_of too_many too_long step next lines) ≡ (written, Ok new) → new.0 ≡ number + (length lines + 1)
  on-counts number (Ok next) lines new written one more is =
      let w : List ℕ = (run_of too_many too_long step next.0 lines).0 in
      let end : run_of too_many too_long step next.0 lines ≡ (w, Ok new) = ap (λ (v : Result (ℕ × M) (ℕ × W)). (w, v)) (ap (λ (r : Run M W). r.1) is) in
      omega (arith, one next refl, more next.0 w end)
  on-counts number (Err why) lines new written one more is =
      let refused : Result (ℕ × M) (ℕ × W) = Err (number, why) in
      let clash : refused ≡ Ok new = ap (λ (r : Run M W). r.1) is in
      absurd (cc)

  -- after a run of lines the number is higher by as many
  pub run_of-counts : (lines : List (List ℕ)) (old new : ℕ × M) (written : List ℕ) → run_of too_many too_long step old lines ≡ (written, Ok new) → new.0 ≡ old.0 + length lines
  unfolding number_in
  run_of-counts [] old new written is = let same : old.0 ≡ new.0 = ap number_in (ap (λ (r : Run M W). r.1) is) in omega (arith, same)
  run_of-counts (line ∷ lines) old new written is =
      let counts : new.0 ≡ old.0 + (length lines + 1) =
      on-counts old.0 (line_outcome too_many too_long step old line) lines new written
      (λ next taken. one-counts (nat_lt LINES old.0) (nat_lt LINE_BYTES (length line)) old.0 (step old.1 line) next taken)
      (λ from w ends. run_of-counts lines from new w ends)
      is in
      omega (arith, counts)
