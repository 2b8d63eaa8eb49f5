-- Addresses of IP version 6 into which those of version 4 are mapped (RFC 4291, section 2.5.5.2).
use Rattle.std.specs.Prelude.{ℕ, ◌/◌, ◌==◌, Bool}

-- the address is in `::ffff:0:0/96`
abbrev pub is_mapped_number : ℕ → Bool
is_mapped_number number = number / 4294967296 == 65535
