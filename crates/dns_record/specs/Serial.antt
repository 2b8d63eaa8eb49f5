-- Serial numbers, which wrap (RFC 1982, section 3.2), in 32 bits.
use Rattle.std.specs.Prelude.{ℕ, ◌-◌, ◌^◌, Bool, ◌&&◌, ◌||◌, nat_lt}

-- The second serial is newer than the first (RFC 1982, section 3.2). At a distance of 2^31 neither of two is newer.
abbrev pub is_newer : ℕ → ℕ → Bool
is_newer ours theirs =
    (nat_lt ours theirs && nat_lt (theirs - ours) (2 ^ 31))
    || (nat_lt theirs ours && nat_lt (2 ^ 31) (ours - theirs))
