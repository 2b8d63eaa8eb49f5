-- A number in two halves of 64 bits.
use Rattle.std.proofs.Common.{◌≡◌, ℕ, ◌+◌, ◌*◌, ◌/◌, ◌%◌, ◌<◌}
use Rattle.std.proofs.lemmas.Nat.{div-mul-add, mod-mul-add}

abbrev pub whole : ℕ → ℕ → ℕ
whole high low = high * 18446744073709551616 + low

abbrev pub high_of : ℕ → ℕ
high_of number = number / 18446744073709551616

abbrev pub low_of : ℕ → ℕ
low_of number = number % 18446744073709551616

pub halves_back : (high low : ℕ) → low < 18446744073709551616 → (high_of (whole high low) ≡ high) × (low_of (whole high low) ≡ low)
halves_back high low h = (div-mul-add high 18446744073709551616 low h, mod-mul-add high 18446744073709551616 low h)
