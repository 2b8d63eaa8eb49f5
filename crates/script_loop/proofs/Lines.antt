-- Lines and the bytes that they are made of.
use Rattle.std.proofs.Common.{◌≡◌, ◌≢◌, ℕ, ◌+◌, ◌-◌, ◌≤◌, List, [], ◌++◌, ◌∷◌, false, length, take, drop, refl, sym, ◌∙◌, ap, arith, append_assoc}
use Rattle.std.specs.Prelude.{◌==◌, flat_map}
use Rattle.std.specs.List.{AllByRecursion, onto_first}
use Rattle.std.proofs.lemmas.List.{append-nil, drop-take, drop-drop}
use Rattle.std.proofs.lemmas.Bool.Decides.{nat_tests}
use Rattle.script_loop.specs.Lines.{lines_of, whole_lines, onto_whole}

-- past the first n bytes of the buffer
pub buffer_after : (chunk : List ℕ) (from end n : ℕ) → from + n ≤ end → drop n (take (end - from) (drop from chunk)) ≡ take (end - (from + n)) (drop (from + n) chunk)
buffer_after chunk from end n fits =
    let size : end - from ≡ n + (end - (from + n)) = omega arith in
    ap (λ (k : ℕ). drop n (take k (drop from chunk))) size ∙ drop-take n (end - (from + n)) (drop from chunk) ∙ ap (λ (l : List ℕ). take (end - (from + n)) l) (drop-drop n from chunk)

-- as `NoFeed`, by recursion
abbrev pub Feedless : List ℕ → Type 0
Feedless line = AllByRecursion (λ b. b ≢ 10) line

-- a line and its line feed
abbrev pub with_feed : List ℕ → List ℕ
with_feed line = line ++ 10 ∷ []

-- the bytes of lines that are ended
abbrev pub bytes_of : List (List ℕ) → List ℕ
bytes_of lines = flat_map with_feed lines

no_feed : (b : ℕ) → b ≢ 10 → (b == 10) ≡ false
no_feed b other = grind (arith, nat_tests)

-- a line feed ends the first line
pub lines_of-whole : (line rest : List ℕ) → Feedless line → lines_of (line ++ 10 ∷ rest) ≡ line ∷ lines_of rest
lines_of-whole [] rest less = refl
lines_of-whole (b ∷ line) rest less = rw (no_feed b less.0) (ap (λ (l : List (List ℕ)). onto_first b l) (lines_of-whole line rest less.1))

-- what has no line feed is one line
pub lines_of-last : (b : ℕ) (line : List ℕ) → Feedless (b ∷ line) → lines_of (b ∷ line) ≡ (b ∷ line) ∷ []
lines_of-last b [] less = rw (no_feed b less.0) refl
lines_of-last b (next ∷ line) less = rw (no_feed b less.0) (ap (λ (l : List (List ℕ)). onto_first b l) (lines_of-last next line less.1))

pub lines_of-bytes_of : (lines : List (List ℕ)) (rest : List ℕ) → AllByRecursion Feedless lines → lines_of (bytes_of lines ++ rest) ≡ lines ++ lines_of rest
lines_of-bytes_of [] rest each = refl
lines_of-bytes_of (line ∷ lines) rest each =
    ap lines_of (append_assoc (with_feed line) (bytes_of lines) rest ∙ append_assoc line (10 ∷ []) (bytes_of lines ++ rest))
    ∙ lines_of-whole line (bytes_of lines ++ rest) each.0
    ∙ ap (λ (l : List (List ℕ)). line ∷ l) (lines_of-bytes_of lines rest each.1)

pub whole_lines-whole : (line rest : List ℕ) → Feedless line → whole_lines (line ++ 10 ∷ rest) ≡ line ∷ whole_lines rest
whole_lines-whole [] rest less = refl
whole_lines-whole (b ∷ line) rest less = rw (no_feed b less.0) (ap (λ (l : List (List ℕ)). onto_whole b l) (whole_lines-whole line rest less.1))

-- a part of a line isn't ended
pub whole_lines-part : (line : List ℕ) → Feedless line → whole_lines line ≡ []
whole_lines-part [] less = refl
whole_lines-part (b ∷ line) less = rw (no_feed b less.0) (ap (λ (l : List (List ℕ)). onto_whole b l) (whole_lines-part line less.1))

pub whole_lines-bytes_of : (lines : List (List ℕ)) (rest : List ℕ) → AllByRecursion Feedless lines → whole_lines (bytes_of lines ++ rest) ≡ lines ++ whole_lines rest
whole_lines-bytes_of [] rest each = refl
whole_lines-bytes_of (line ∷ lines) rest each =
    ap whole_lines (append_assoc (with_feed line) (bytes_of lines) rest ∙ append_assoc line (10 ∷ []) (bytes_of lines ++ rest))
    ∙ whole_lines-whole line (bytes_of lines ++ rest) each.0
    ∙ ap (λ (l : List (List ℕ)). line ∷ l) (whole_lines-bytes_of lines rest each.1)

-- what is more than nothing and has no line feed is one line
pub lines_of-one : (line : List ℕ) → Feedless line → line ≢ [] → lines_of line ≡ line ∷ []
lines_of-one [] less some = absurd (some refl)
lines_of-one (b ∷ line) less some = lines_of-last b line less

pub bytes_of-push : (lines : List (List ℕ)) (line rest : List ℕ) → bytes_of (lines ++ line ∷ []) ++ rest ≡ bytes_of lines ++ (line ++ 10 ∷ rest)
bytes_of-push [] line rest = ap (λ (l : List ℕ). l ++ rest) (append-nil (with_feed line)) ∙ append_assoc line (10 ∷ []) rest
bytes_of-push (first ∷ lines) line rest =
    append_assoc (with_feed first) (bytes_of (lines ++ line ∷ [])) rest
    ∙ ap (λ (l : List ℕ). with_feed first ++ l) (bytes_of-push lines line rest)
    ∙ sym (append_assoc (with_feed first) (bytes_of lines) (line ++ 10 ∷ rest))

pub each-push : (lines : List (List ℕ)) (line : List ℕ) → AllByRecursion Feedless lines → Feedless line → AllByRecursion Feedless (lines ++ line ∷ [])
each-push [] line each less = (less, tt)
each-push (first ∷ lines) line each less = (each.0, each-push lines line each.1 less)

-- the first line of what follows a part of it
pub record FirstLine (part bytes : List ℕ) : Type 0 where
  pub line : List ℕ
  pub lines : List (List ℕ)
  pub first : lines_of bytes ≡ line ∷ lines
  pub longer : length part ≤ length line

-- a byte that is no line feed begins a line
begins : (b : ℕ) (lines : List (List ℕ)) → (line : List ℕ) × (others : List (List ℕ)) × (onto_first b lines ≡ line ∷ others) × (1 ≤ length line)
begins b [] = (b ∷ [], [], refl, omega arith)
begins b (line ∷ lines) = (b ∷ line, lines, refl, omega arith)

-- a part of a line goes on to a line that is no shorter
pub first_line : (b : ℕ) (part rest : List ℕ) → Feedless (b ∷ part) → FirstLine (b ∷ part) ((b ∷ part) ++ rest)
first_line b [] rest less =
    let after = begins b (lines_of rest) in
    record { line = after.0; lines = after.1; first = rw (no_feed b less.0) after.2; longer = after.3 }
first_line b (next ∷ part) rest less =
    let after = first_line next part rest less.1 in
    record { line = b ∷ after.line; lines = after.lines; first = rw (no_feed b less.0) (ap (λ (l : List (List ℕ)). onto_first b l) after.first); longer = omega (arith, after.longer) }

pub not_empty : (line : List ℕ) → (length line == 0) ≡ false → line ≢ []
not_empty [] is = λ none. cc
not_empty (b ∷ line) is = λ none. cc
