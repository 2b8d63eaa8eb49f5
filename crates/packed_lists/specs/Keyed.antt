-- Keys with numbers, and their order.
use Rattle.std.specs.Prelude.{◌≡◌, ℕ, ◌<◌, List, [], ◌∷◌, ◌++◌, length, map, if◌then◌else◌}
use Rattle.std.specs.Cmp.Lexicographic.{slice_cmp}
use Rattle.std.specs.List.{AllByRecursion}
use Rattle.std.specs.List.Sorted.{IsSortedBy}
use Rattle.std.specs.Ordering.{is_lt, nat_cmp}
use Rattle.std.specs.Str.{bytes_eq}

-- a key, a string of octets, and its number
pub record PlainKeyed : Type 0 where
  pub key : List ℕ
  pub number : ℕ

-- the numbers with a key, in the order in which they stand
abbrev pub numbers_with : List ℕ → List PlainKeyed → List ℕ
numbers_with key [] = []
numbers_with key (k ∷ ks) = if bytes_eq key k.key then k.number ∷ numbers_with key ks else numbers_with key ks

-- they stand in the order of their keys
abbrev pub AreInOrder : List PlainKeyed → Type 0
AreInOrder ks = IsSortedBy (λ a b. is_lt (slice_cmp nat_cmp a.key b.key)) ks

-- the first of some keys in order, those of one key, and the rest
pub record IsFirstRun (keys run rest : List PlainKeyed) : Type 0 where
  pub whole : keys ≡ run ++ rest
  pub key : List ℕ
  pub same : AllByRecursion (λ k. k.key ≡ key) run
  pub some : 0 < length run
  pub numbers : map (λ k. k.number) run ≡ numbers_with key keys
  pub gone : numbers_with key rest ≡ []
  pub others : (other : List ℕ) → (other ≡ key → ⊥) → numbers_with other rest ≡ numbers_with other keys
  pub in_order : AreInOrder rest
