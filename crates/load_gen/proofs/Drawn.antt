-- What is drawn for one rule or query, and the state behind it.
use Rattle.std.proofs.Common.{◌≡◌, ℕ, suc, ◌+◌, ◌*◌, refl, ap, ◌∙◌, arith}
use Rattle.load_gen.specs.Draws.{after_four, after_three, after_two, next_state, state_after}

next : (seed count : ℕ) → state_after seed (suc count) ≡ next_state (state_after seed count)
unfolding state_after
next seed count = refl

pub none : (seed : ℕ) → state_after seed 0 ≡ seed
unfolding state_after
none seed = refl

-- one draw more
pub one : (seed count : ℕ) → state_after seed (count + 1) ≡ next_state (state_after seed count)
one seed count =
    let e : count + 1 ≡ suc count = omega arith in
    ap (λ n. state_after seed n) e ∙ next seed count

pub two : (seed count : ℕ) → state_after seed (count + 1 + 1) ≡ after_two (state_after seed count)
two seed count = one seed (count + 1) ∙ ap next_state (one seed count)

pub three : (seed count : ℕ) → state_after seed (count + 2 + 1) ≡ after_three (state_after seed count)
three seed count =
    let e : count + 2 + 1 ≡ count + 1 + 1 + 1 = omega arith in
    ap (λ n. state_after seed n) e ∙ (one seed (count + 1 + 1) ∙ ap next_state (two seed count))

pub four : (seed count : ℕ) → state_after seed (count + 3 + 1) ≡ after_four (state_after seed count)
four seed count =
    let e : count + 3 + 1 ≡ count + 2 + 1 + 1 = omega arith in
    ap (λ n. state_after seed n) e ∙ (one seed (count + 2 + 1) ∙ ap next_state (three seed count))

-- the state behind one rule more, and behind one query more
pub behind_rule : (seed place : ℕ) → state_after seed (3 * (place + 1)) ≡ after_three (state_after seed (3 * place))
behind_rule seed place =
    let e : 3 * (place + 1) ≡ 3 * place + 2 + 1 = omega arith in
    ap (λ n. state_after seed n) e ∙ three seed (3 * place)

pub behind_query : (seed place : ℕ) → state_after seed (4 * (place + 1)) ≡ after_four (state_after seed (4 * place))
behind_query seed place =
    let e : 4 * (place + 1) ≡ 4 * place + 3 + 1 = omega arith in
    ap (λ n. state_after seed n) e ∙ four seed (4 * place)
