-- The response to a query for which there is no memory (RFC 1035, section 4.1.1).
use Rattle.std.specs.Prelude.{ℕ, ◌/◌, ◌%◌, List, [], ◌∷◌}

-- a header alone: the ID, a response with RD and RA, rcode 2, and four counts of 0
abbrev pub bare_servfail : ℕ → List ℕ
bare_servfail id = id / 256 ∷ id % 256 ∷ 129 ∷ 130 ∷ 0 ∷ 0 ∷ 0 ∷ 0 ∷ 0 ∷ 0 ∷ 0 ∷ 0 ∷ []
