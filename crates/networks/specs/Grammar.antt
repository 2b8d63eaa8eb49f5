-- Texts of addresses of IP version 6, by cases (RFC 4291, section 2.2).
use Rattle.std.specs.Prelude.{ℕ, ◌+◌, ◌-◌, ◌/◌, ◌%◌, ◌≤◌, ◌≡◌, ◌⊎◌, true, List, [], ◌∷◌, ◌++◌, length, replicate, codes, Some}
use Rattle.std.specs.Char.{is_ascii_hexdigit}
use Rattle.std.specs.List.{list_all}
use Rattle.std.specs.Str.Parse.{digits_value}
use Rattle.networks.specs.Dotted.{tail_of}

-- a group of 16 bits: 1 to 4 hexadecimal digits in either case
pub record IsGroup (text : List ℕ) (group : ℕ) : Type 0 where
  pub some : 1 ≤ length text
  pub few : length text ≤ 4
  pub digits : list_all is_ascii_hexdigit text ≡ true
  pub value : digits_value 16 text ≡ group

-- one group, or more that are joined by colons
pub data AreGroups : List ℕ → List ℕ → Type 0 where
  one : (text : List ℕ) (group : ℕ) → IsGroup text group → AreGroups text (group ∷ [])
  more : (text rest : List ℕ) (group : ℕ) (groups : List ℕ) → IsGroup text group →
      AreGroups rest groups → AreGroups (text ++ (codes ":" ++ rest)) (group ∷ groups)

-- the two groups of a number of 32 bits
abbrev pub halves : ℕ → List ℕ
halves number = number / 65536 ∷ number % 65536 ∷ []

-- groups, of which the last two may be written as four decimals (form 3)
pub data AreLastGroups : List ℕ → List ℕ → Type 0 where
  plain : (text groups : List ℕ) → AreGroups text groups → AreLastGroups text groups
  dotted : (text : List ℕ) (number : ℕ) → tail_of text ≡ Some number →
      AreLastGroups text (halves number)
  behind : (before text groups : List ℕ) (number : ℕ) → AreGroups before groups →
      tail_of text ≡ Some number →
      AreLastGroups (before ++ (codes ":" ++ text)) (groups ++ halves number)

-- such groups, or no text and none
abbrev pub MayBe : (List ℕ → List ℕ → Type 0) → List ℕ → List ℕ → Type 0
MayBe Are text groups = ((text ≡ []) × (groups ≡ [])) ⊎ Are text groups

-- An address: eight groups (form 1), or fewer with one `::`, which stands for one group of zeros or more (form 2). Before it and
-- behind it there may be none.
pub data IsV6Text : List ℕ → List ℕ → Type 0 where
  whole : (text groups : List ℕ) → AreLastGroups text groups → length groups ≡ 8 →
      IsV6Text text groups
  elided : (head tail before after : List ℕ) → MayBe AreGroups head before →
      MayBe AreLastGroups tail after → length before + length after ≤ 7 →
      IsV6Text (head ++ (codes "::" ++ tail))
      (before ++ (replicate (8 - (length before + length after)) 0 ++ after))
