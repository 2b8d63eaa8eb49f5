-- The address of IP version 6 that a text writes, read from its front (RFC 4291, section 2.2). That it is the one of the grammar is
-- a law of this crate.
use Rattle.std.specs.Prelude.{ℕ, ◌+◌, ◌-◌, ◌*◌, ◌==◌, ◌&&◌, Bool, not, if◌then◌else◌, nat_lt, nat_le, List, [], ◌∷◌, ◌++◌, length, replicate, fold, Option, Some, None, option_map}
use Rattle.std.specs.Char.{is_ascii_hexdigit}
use Rattle.std.specs.List.{list_all, list_any, slice_split}
use Rattle.std.specs.Str.Parse.{digits_value}
use Rattle.networks.specs.Dotted.{is_octet_dot, tail_of}
use Rattle.networks.specs.Grammar.{halves}
use Rattle.networks.specs.Optional.{◌>>=◌, none_if}

-- `:`, which stands between groups
abbrev pub is_colon : ℕ → Bool
is_colon b = b == 58

-- a byte, and what stands before and behind `::`
abbrev pub with_first : ℕ → List ℕ × List ℕ → List ℕ × List ℕ
with_first b sides = (b ∷ sides.0, sides.1)

-- what stands before and behind the first `::`, if there is one
abbrev pub at_elision : List ℕ → Option (List ℕ × List ℕ)
at_elision [] = None
at_elision (b ∷ []) = None
at_elision (b ∷ c ∷ rest) =
    if is_colon b && is_colon c then Some ([], rest)
    else option_map (with_first b) (at_elision (c ∷ rest))

-- a group of 16 bits: 1 to 4 hexadecimal digits in either case
abbrev pub group_of : List ℕ → Option ℕ
group_of text =
    if nat_lt 0 (length text) && nat_le (length text) 4 && list_all is_ascii_hexdigit text
    then Some (digits_value 16 text) else None

-- one group
abbrev pub one_group : List ℕ → Option (List ℕ)
one_group text = do
  group ← group_of text
  Some (group ∷ [])

-- one group, or four decimals, which are two
abbrev pub one_or_two_groups : List ℕ → Option (List ℕ)
one_or_two_groups text = if list_any is_octet_dot text then option_map halves (tail_of text) else one_group text

-- the groups of fields, of which the last is read as this function says, and each other is one group
abbrev pub groups_of : (List ℕ → Option (List ℕ)) → List (List ℕ) → Option (List ℕ)
groups_of last_groups [] = Some []
groups_of last_groups (last ∷ []) = last_groups last
groups_of last_groups (field ∷ next ∷ fields) = do
  group ← group_of field
  groups ← groups_of last_groups (next ∷ fields)
  Some (group ∷ groups)

-- the groups of a text with colons between its fields
abbrev pub text_groups : (List ℕ → Option (List ℕ)) → List ℕ → Option (List ℕ)
text_groups last_groups text = groups_of last_groups (slice_split is_colon text)

-- what stands on one side of `::`: nothing, or groups
abbrev pub side_groups : (List ℕ → Option (List ℕ)) → List ℕ → Option (List ℕ)
side_groups last_groups [] = Some []
side_groups last_groups (b ∷ rest) = text_groups last_groups (b ∷ rest)

-- the number of an address, the first group highest
abbrev pub number_of_groups : List ℕ → ℕ
number_of_groups groups = fold (λ number group. number * 65536 + group) 0 groups

-- eight groups: these, groups of zeros, and those
abbrev pub filled : List ℕ → List ℕ → List ℕ
filled before after = before ++ (replicate (8 - (length before + length after)) 0 ++ after)

-- the address that eight groups write
abbrev pub whole_of : List ℕ → Option ℕ
whole_of text = do
  groups ← text_groups one_or_two_groups text
  _ ← none_if (not (length groups == 8))
  Some (number_of_groups groups)

-- the address that the groups before `::` and those behind it write
abbrev pub elided_of : List ℕ → List ℕ → Option ℕ
elided_of head tail = do
  before ← side_groups one_group head
  after ← side_groups one_or_two_groups tail
  _ ← none_if (nat_lt 7 (length before + length after))
  Some (number_of_groups (filled before after))

-- the address of a text, by what stands before and behind its `::`
abbrev pub v6_at : List ℕ → Option (List ℕ × List ℕ) → Option ℕ
v6_at text None = whole_of text
v6_at text (Some sides) = elided_of sides.0 sides.1

-- the address that a text writes
unfoldable pub v6_number : List ℕ → Option ℕ
v6_number text = v6_at text (at_elision text)
