-- What was written before stays, whatever is written behind it.
use Rattle.std.proofs.Common.{◌≡◌, ◌≤◌, ℕ, List, ◌++◌, length, take, drop, sym, ap, ◌∙◌, arith}
use Rattle.std.proofs.lemmas.List.{length-take, take-append-drop, take-append-le}

pub begins_on : (first middle last : List ℕ) → take (length first) middle ≡ first → take (length middle) last ≡ middle → take (length first) last ≡ first
begins_on first middle last begins goes_on =
    let shorter : length first ≤ length middle =
    let e : length (take (length first) middle) ≡ length first = ap length begins in
    omega (arith, length-take (length first) middle, e) in
    let whole : last ≡ middle ++ drop (length middle) last =
    sym (ap (λ (l : List ℕ). l ++ drop (length middle) last) (sym goes_on) ∙ take-append-drop (length middle) last) in
    ap (take (length first)) whole ∙ take-append-le (length first) middle (drop (length middle) last) shorter ∙ begins
