-- The pattern of which the key of an entry is.
use Rattle.std.specs.Prelude.{ℕ, zero, suc, ◌-◌, ◌==◌, Bool, false, List, [], ◌∷◌, length, take, drop, reverse}
use Rattle.dns_name.specs.Alike.{PlainPattern}
use Rattle.dns_name.specs.Labels.{Label, Name}

-- the octets of an entry's key, without the symbol at its end
abbrev pub octets_in : List ℕ → List ℕ
octets_in [] = []
octets_in (s ∷ []) = []
octets_in (s ∷ t ∷ ss) = (s - 2) ∷ octets_in (t ∷ ss)

-- whether that symbol is the one of wild entries
abbrev pub is_wild_in : List ℕ → Bool
is_wild_in [] = false
is_wild_in (s ∷ []) = s == 1
is_wild_in (s ∷ t ∷ ss) = is_wild_in (t ∷ ss)

-- the labels that stand one behind another, each behind its length, at most so many
abbrev pub labels_behind : ℕ → List ℕ → List Label
labels_behind zero octets = []
labels_behind (suc n) [] = []
labels_behind (suc n) (count ∷ octets) = take count octets ∷ labels_behind n (drop count octets)

-- the name of which these octets are the key
abbrev pub name_in : List ℕ → Name
name_in octets = reverse (labels_behind (length octets) octets)

abbrev pub pattern_in : List ℕ → PlainPattern
pattern_in key = record { base = name_in (octets_in key); wild = is_wild_in key }
