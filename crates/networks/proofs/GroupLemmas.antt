-- Groups, one behind another, and the number that they make.
use Rattle.std.proofs.Common.{◌≡◌, ℕ, ◌+◌, ◌-◌, ◌*◌, ◌^◌, ◌<◌, ◌≤◌, ◌%◌, Option, Some, refl, sym, ap, ◌∙◌, arith, le-ltb}
use Rattle.std.proofs.Math.Nat.{pow-le-pow_right, mul-le-mul_right, add-mul, one-mul}
use Rattle.std.proofs.lemmas.Nat.{pow-add, shl_whole}
use Rattle.networks.specs.declared.groups.Groups.{Groups}
use Rattle.networks.specs.Groups.{AreFew, filled_number}

-- one group more
pub group_more : (number count group : ℕ) → number < 2 ^ (16 * count) → group < 65536 → number * 65536 + group < 2 ^ (16 * (count + 1))
group_more number count group below few =
    let e : 16 * (count + 1) ≡ 16 * count + 16 = omega arith in
    let p : 2 ^ (16 * count + 16) ≡ 2 ^ (16 * count) * 65536 = pow-add 2 (16 * count) 16 in
    rw (e, p) (omega arith)

-- eight groups have 128 bits
pub groups_fit : (count : ℕ) → count ≤ 8 → 2 ^ (16 * count) ≤ 2 ^ 128
groups_fit count few = let le : 16 * count ≤ 128 = omega arith in pow-le-pow_right (omega arith) le

pub more_fits : (number count group : ℕ) → number < 2 ^ (16 * count) → group < 65536 → count < 8 → number * 65536 + group < 2 ^ 128
more_fits number count group below few lt = omega (arith, group_more number count group below few, groups_fit (count + 1) (omega arith))

-- groups, zeros and groups
pub filled_fits : (first last count others : ℕ) → first < 2 ^ (16 * count) → last < 2 ^ (16 * others) → count + others ≤ 7 → first * 2 ^ (128 - 16 * count) + last < 2 ^ 128
filled_fits first last count others below less few =
    let k : ℕ = 128 - 16 * count in
    let all : 16 * count + k ≡ 128 = omega arith in
    let p : 2 ^ (16 * count + k) ≡ 2 ^ (16 * count) * 2 ^ k = pow-add 2 (16 * count) k in
    let le : 16 * others ≤ k = omega arith in
    let fit : 2 ^ (16 * others) ≤ 2 ^ k = pow-le-pow_right (omega arith) le in
    next_fits first last (2 ^ (16 * count)) (2 ^ k) (2 ^ 128) (sym p ∙ ap (λ n. 2 ^ n) all) below (omega (arith, less, fit))
  where
    next_fits : (first last high low all : ℕ) → high * low ≡ all → first < high → last < low → first * low + last < all
    next_fits first last high low all e f l =
        let m : (first + 1) * low ≤ high * low = mul-le-mul_right low (omega arith) in
        let d : (first + 1) * low ≡ first * low + low = add-mul first 1 low ∙ ap (λ n. first * low + n) (one-mul low) in
        omega arith

-- what the code gives, where nothing is shifted out
pub fill_is : (before after : Groups) → AreFew before → before.count + after.count ≤ 7 → let number : Option ℕ = Some ((before.number * 2 ^ (128 - 16 * before.count)) % 2 ^ 128 + after.number) in number ≡ filled_number before after
fill_is before after few le = rw (shl_whole before.number (16 * before.count) (128 - 16 * before.count) 128 few.fits (omega (arith, few.few)), le-ltb 7 (before.count + after.count) le) refl
