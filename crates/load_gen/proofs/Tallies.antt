-- What replies come to with one more, and with the replies of the next part.
use Rattle.std.proofs.Common.{◌≡◌, ℕ, ◌+◌, ◌%◌, ◌^◌, Bool, true, false, List, [], ◌∷◌, ◌++◌, sym, ap, ◌∙◌, arith}
use Rattle.std.specs.Prelude.{cond, count_by, flat_map, fold}
use Rattle.std.proofs.lemmas.List.{append-nil}
use Rattle.std.proofs.lemmas.List.Sums.{fold-append, sum_by-append}
use Rattle.std.proofs.lemmas.Grind.{flat_map-append}
use Rattle.std.proofs.Math.Nat.{add-mod, mod-add-mod}
use Rattle.reply_build.specs.declared.said.Said.TheVariants.{Reply, Silent}
use Rattle.reply_build.specs.declared.turn.Turn.{Turn}
use Rattle.reply_build.specs.declared.turn.Turn.TheVariants.{Ask, Said}
use Rattle.load_gen.specs.declared.tally.Tally.{Tally}
use Rattle.load_gen.specs.Summed.{is_nodata, is_nxdomain, is_other, mark_of, next_mark, reply_octets}
use Rattle.load_gen.specs.Tallied.{joined, next_power, one_if, power_of, tally_of, with_turn}
use Rattle.load_gen.proofs.Marks.{two_marks, two_powers}

record_path : (a a' b b' c c' d d' e e' : ℕ) → a ≡ a' → b ≡ b' → c ≡ c' → d ≡ d' → e ≡ e'
    → let first : Tally = record { nxdomain = a; nodata = b; other = c; mark = d; power = e } in
    let second : Tally = record { nxdomain = a'; nodata = b'; other = c'; mark = d'; power = e' } in first ≡ second
record_path a a' b b' c c' d d' e e' p q r s t = λ i. record { nxdomain = p i; nodata = q i; other = r i; mark = s i; power = t i }

-- ---- two parts

two_counts : (test : Turn → Bool) (xs ys : List Turn) → count_by test (xs ++ ys) % 2 ^ 64 ≡ (count_by test xs % 2 ^ 64 + count_by test ys % 2 ^ 64) % 2 ^ 64
two_counts test xs ys =
    ap (λ n. n % 2 ^ 64) (sum_by-append (λ x. cond (test x) 1 0) xs ys)
    ∙ add-mod (count_by test xs) (count_by test ys) (2 ^ 64)

pub two_parts : (xs ys : List Turn) → tally_of (xs ++ ys) ≡ joined (tally_of xs) (tally_of ys)
two_parts xs ys =
    let bytes = flat_map-append reply_octets xs ys in
    record_path _ _ _ _ _ _ _ _ _ _
    (two_counts is_nxdomain xs ys) (two_counts is_nodata xs ys) (two_counts is_other xs ys)
    (ap (λ bs. fold next_mark 0 bs) bytes ∙ two_marks (flat_map reply_octets xs) (flat_map reply_octets ys))
    (ap (λ bs. fold next_power 1 bs) bytes ∙ two_powers (flat_map reply_octets xs) (flat_map reply_octets ys))

-- ---- one more

one_count_by : (n : ℕ) (test : Bool) → (n + cond test 1 0) % 2 ^ 64 ≡ one_if test (n % 2 ^ 64)
one_count_by n true = sym (mod-add-mod n (2 ^ 64) 1)
one_count_by n false = ap (λ k. k % 2 ^ 64) (omega arith)

one_count : (test : Turn → Bool) (xs : List Turn) (turn : Turn) → count_by test (xs ++ turn ∷ []) % 2 ^ 64 ≡ one_if (test turn) (count_by test xs % 2 ^ 64)
one_count test xs turn =
    let zero_first : 0 + cond (test turn) 1 0 ≡ cond (test turn) 1 0 = omega arith in
    ap (λ n. n % 2 ^ 64) (sum_by-append (λ x. cond (test x) 1 0) xs (turn ∷ []) ∙ ap (λ n. count_by test xs + n) zero_first)
    ∙ one_count_by (count_by test xs) (test turn)

octets_behind : (xs : List Turn) (turn : Turn) → flat_map reply_octets (xs ++ turn ∷ []) ≡ flat_map reply_octets xs ++ reply_octets turn
octets_behind xs turn =
    flat_map-append reply_octets xs (turn ∷ []) ∙ ap (λ bs. flat_map reply_octets xs ++ bs) (append-nil (reply_octets turn))

one_mark : (xs : List Turn) (turn : Turn) → mark_of (xs ++ turn ∷ []) ≡ fold next_mark (mark_of xs) (reply_octets turn)
one_mark xs turn =
    ap (λ bs. fold next_mark 0 bs) (octets_behind xs turn)
    ∙ fold-append next_mark 0 (flat_map reply_octets xs) (reply_octets turn)

one_power : (xs : List Turn) (turn : Turn) → power_of (xs ++ turn ∷ []) ≡ fold next_power (power_of xs) (reply_octets turn)
one_power xs turn =
    ap (λ bs. fold next_power 1 bs) (octets_behind xs turn)
    ∙ fold-append next_power 1 (flat_map reply_octets xs) (reply_octets turn)

pub one_more : (xs : List Turn) (turn : Turn) → tally_of (xs ++ turn ∷ []) ≡ with_turn (tally_of xs) turn
one_more xs (Ask question) =
    record_path _ _ _ _ _ _ _ _ _ _
    (one_count is_nxdomain xs (Ask question)) (one_count is_nodata xs (Ask question)) (one_count is_other xs (Ask question))
    (one_mark xs (Ask question)) (one_power xs (Ask question))
one_more xs (Said Silent) =
    record_path _ _ _ _ _ _ _ _ _ _
    (one_count is_nxdomain xs (Said Silent)) (one_count is_nodata xs (Said Silent)) (one_count is_other xs (Said Silent))
    (one_mark xs (Said Silent)) (one_power xs (Said Silent))
one_more xs (Said (Reply octets)) =
    record_path _ _ _ _ _ _ _ _ _ _
    (one_count is_nxdomain xs (Said (Reply octets))) (one_count is_nodata xs (Said (Reply octets))) (one_count is_other xs (Said (Reply octets)))
    (one_mark xs (Said (Reply octets))) (one_power xs (Said (Reply octets)))
