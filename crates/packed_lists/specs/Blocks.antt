-- A list of rows in blocks, one behind another.
use Rattle.std.specs.Prelude.{◌≡◌, ℕ, ◌+◌, ◌<◌, ◌^◌, List, [], ◌∷◌, ◌++◌, length}
use Rattle.packed_lists.specs.Stored.{PlainStored, NumbersRise, without_number}

-- rows with rising numbers, and the number that the next row gets
pub record PlainRowList : Type 0 where
  pub rows : List PlainStored
  pub next : ℕ

-- the list with no rows
abbrev pub no_rows : PlainRowList
no_rows = record { rows = []; next = 0 }

-- the list with a row at its end, whose number is the next one or greater
abbrev pub put_row : PlainRowList → PlainStored → PlainRowList
put_row list row = record { rows = list.rows ++ row ∷ []; next = row.number + 1 }

-- the list with a row of these parts at its end, which gets the next number
abbrev pub with_row : PlainRowList → List ℕ → ℕ → ℕ → List ℕ → PlainRowList
with_row list owner rtype ttl rdata = put_row list (record { number = list.next; owner = owner; rtype = rtype; ttl = ttl; rdata = rdata })

-- the list without the row of the number
abbrev pub without_row : ℕ → PlainRowList → PlainRowList
without_row number list = record { rows = without_number number list.rows; next = list.next }

-- the rows of all blocks
abbrev pub joined : List (List PlainStored) → List PlainStored
joined [] = []
joined (b ∷ bs) = b ++ joined bs

-- how many rows stand before each block, if so many stand before the first
abbrev pub starts_of : ℕ → List (List PlainStored) → List ℕ
starts_of n [] = []
starts_of n (b ∷ bs) = n ∷ starts_of (n + length b) bs

-- the first of the numbers, or this one where there is none
abbrev pub head_or : List ℕ → ℕ → ℕ
head_or [] d = d
head_or (x ∷ xs) d = x

-- each block has numbers from its own first on, up to the first of the block behind it
abbrev pub AreKeyed : List ℕ → List (List PlainStored) → ℕ → Type 0
AreKeyed [] [] high = Unit {0}
AreKeyed [] (b ∷ bs) high = ⊥
AreKeyed (f ∷ fs) [] high = ⊥
AreKeyed (f ∷ fs) (b ∷ bs) high = NumbersRise f b (head_or fs high) × AreKeyed fs bs high

-- beside the blocks stand the first number that each may have, and how many rows are before it
pub record IsIndexed (firsts starts : List ℕ) (blocks : List (List PlainStored)) (next : ℕ) : Type 0 where
  pub begins : head_or firsts 1 ≡ 0
  pub keyed : AreKeyed firsts blocks next
  pub places : starts ≡ starts_of 0 blocks
  pub fits : next < 2 ^ 32
