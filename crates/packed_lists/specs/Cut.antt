-- Keys cut from one string of octets.
use Rattle.std.specs.Prelude.{ℕ, List, [], ◌∷◌, take, drop}
use Rattle.packed_lists.specs.Keyed.{PlainKeyed}
use Rattle.packed_lists.specs.declared.mark.Mark.{Mark}

-- the keys of the marks, one behind the other in the octets
abbrev pub keys_cut : List Mark → List ℕ → List PlainKeyed
keys_cut [] octets = []
keys_cut (mark ∷ marks) octets = record { key = take mark.len octets; number = mark.number } ∷ keys_cut marks (drop mark.len octets)
