-- Keys that are lists of numbers, and those of octets.
use Rattle.std.specs.Prelude.{ℕ, ◌+◌, Bool, not, cond, nat_lt, List, [], ◌∷◌, ◌++◌, length, map, take, slice_index}
use Rattle.std.specs.Cmp.Lexicographic.{slice_cmp}
use Rattle.std.specs.Ordering.{nat_cmp}
use Rattle.std.specs.Str.{bytes_eq}
use Rattle.trie_keys.specs.Keys.{Keys}

-- lists of numbers, of which valid ones have so many at most
abbrev pub list_keys : ℕ → Keys (List ℕ)
list_keys width = record {
  order = slice_cmp nat_cmp;
  len = λ key. length key;
  agree = λ n a b. bytes_eq (take n a) (take n b);
  symbol = λ key n. slice_index key n;
  valid = λ key. not (nat_lt width (length key));
  width = width;
}

-- the keys of entries and nodes
abbrev pub octet_keys : Keys (List ℕ)
octet_keys = list_keys 255

-- octets as symbols: 0 and 1 stand for the ends of keys
abbrev pub symbols : List ℕ → List ℕ
symbols octets = map (λ o. o + 2) octets

-- the symbol behind the octets of an entry
abbrev pub end_symbol : Bool → ℕ
end_symbol wild = cond wild 1 0

-- the key of the entry at the octets
abbrev pub entry_key : List ℕ → Bool → List ℕ
entry_key octets wild = symbols octets ++ end_symbol wild ∷ []
