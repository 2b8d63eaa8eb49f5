-- The numbers that a load is made from: a linear congruential generator of modulus 2^64.
use Rattle.std.specs.Prelude.{ℕ, zero, suc, ◌+◌, ◌*◌, ◌/◌, ◌%◌, ◌^◌}

-- The state of the generator after this state.
abbrev pub next_state : ℕ → ℕ
next_state x = (x * 6364136223846793005 + 1442695040888963407) % 2 ^ 64

-- The number that a state gives: its highest 31 bits.
abbrev pub drawn_in : ℕ → ℕ
drawn_in x = x / 2 ^ 33

-- the state after so many draws
unfoldable pub state_after : ℕ → ℕ → ℕ
state_after seed zero = seed
state_after seed (suc count) = next_state (state_after seed count)

-- the draw that comes after so many others
abbrev pub draw : ℕ → ℕ → ℕ
draw seed count = drawn_in (state_after seed (count + 1))

-- the states behind two, three and four draws
abbrev pub after_two : ℕ → ℕ
after_two x = next_state (next_state x)

abbrev pub after_three : ℕ → ℕ
after_three x = next_state (after_two x)

abbrev pub after_four : ℕ → ℕ
after_four x = next_state (after_three x)
