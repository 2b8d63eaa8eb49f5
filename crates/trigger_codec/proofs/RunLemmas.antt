-- Runs of zero words.
use Rattle.std.proofs.Common.{◌≡◌, ◌≢◌, ℕ, ◌+◌, ◌<◌, ◌≤◌, List, [], ◌∷◌, length, drop, get_or, Bool, true, false, refl, sym, ap, ◌∙◌, arith}
use Rattle.std.specs.Prelude.{nat_lt, ◌==◌, if◌then◌else◌}
use Rattle.std.proofs.lemmas.Bool.Decides.{nat_tests}
use Rattle.std.proofs.lemmas.List.{drop_more}
use Rattle.trigger_codec.specs.Canonical.{Run, longer_run, longest_run, zeros_first}

pub longer-assoc : (a b c : Run) → longer_run (longer_run a b) c ≡ longer_run a (longer_run b c)
longer-assoc a b c = grind (arith, nat_tests)

pub longest_more : (words : List ℕ) (place : ℕ) → place < length words → longest_run place (drop place words) ≡ longer_run (record { place = place; long = zeros_first (drop place words) }) (longest_run (place + 1) (drop (place + 1) words))
longest_more words place lt =
    let more : drop place words ≡ get_or words place 0 ∷ drop (place + 1) words = drop_more words place 0 lt in
    ap (longest_run place) more ∙ ap (λ (ws : List ℕ). longer_run (record { place = place; long = zeros_first ws }) (longest_run (place + 1) (drop (place + 1) words))) (sym more)

-- behind the words nothing is longer
pub longest_last : (run : Run) (place : ℕ) → longer_run run (longest_run place []) ≡ run
longest_last run place = grind (arith, nat_tests)

zeros-le : (words : List ℕ) → zeros_first words ≤ length words
zeros-le [] = omega arith
zeros-le (word ∷ words) = let h = zeros-le words in grind (arith, nat_tests)

one_of : (b : Bool) (x y : Run) (n : ℕ) → x.place + x.long ≤ n → y.place + y.long ≤ n → (if b then y else x).place + (if b then y else x).long ≤ n
one_of true x y n h k = k
one_of false x y n h k = h

pub longest_within : (place : ℕ) (words : List ℕ) → (longest_run place words).place + (longest_run place words).long ≤ place + length words
longest_within place [] = omega arith
longest_within place (word ∷ words) =
    let first : Run = record { place = place; long = zeros_first (word ∷ words) } in
    let other : Run = longest_run (place + 1) words in
    one_of (nat_lt first.long other.long) first other (place + length (word ∷ words)) (omega (arith, zeros-le (word ∷ words))) (omega (arith, longest_within (place + 1) words))

zeros_step : (b : Bool) (n : ℕ) → b ≡ true → (if b then n + 1 else 0) ≡ n + 1
zeros_step true n h = refl
zeros_step false n h = absurd cc

zeros_end : (b : Bool) (n : ℕ) → b ≡ false → (if b then n + 1 else 0) ≡ 0
zeros_end false n h = refl
zeros_end true n h = absurd cc

-- one zero more, and the end of the zeros
pub zeros_more : (words : List ℕ) (i : ℕ) → i < length words → get_or words i 0 ≡ 0 → zeros_first (drop i words) ≡ zeros_first (drop (i + 1) words) + 1
zeros_more words i lt zero =
    ap zeros_first (drop_more words i 0 lt) ∙ zeros_step (get_or words i 0 == 0) (zeros_first (drop (i + 1) words)) (ap (λ (w : ℕ). w == 0) zero)

pub zeros_stop : (words : List ℕ) (i : ℕ) → i < length words → get_or words i 0 ≢ 0 → zeros_first (drop i words) ≡ 0
zeros_stop words i lt other =
    let test : (get_or words i 0 == 0) ≡ false = grind (arith, nat_tests) in
    ap zeros_first (drop_more words i 0 lt) ∙ zeros_end (get_or words i 0 == 0) (zeros_first (drop (i + 1) words)) test
