-- Names in messages, by rules (RFC 1035, sections 3.1 and 4.1.4): what a name is, apart from how it is read.
use Rattle.std.specs.Prelude.{◌≡◌, ℕ, ◌+◌, ◌-◌, ◌*◌, ◌≤◌, ◌<◌, ◌⊎◌, List, [], ◌∷◌, length, take, drop, Ok, Err}
use Rattle.dns_name.specs.declared.fault.NameFault.{NameFault}
use Rattle.dns_name.specs.declared.fault.NameFault.TheVariants.{Short, LabelType, Pointer, TooLong}
use Rattle.dns_name.specs.declared.limits.TheConstants.{NAME_LIMIT, LABEL_LIMIT}
use Rattle.dns_name.specs.Labels.{IsLabel, label_octets}
use Rattle.dns_name.specs.Reading.{NameOutcome, with_labels, with_after}

-- the bytes begin with these octets
abbrev pub Begins : List ℕ → List ℕ → Type 0
Begins bytes front = take (length front) bytes ≡ front

-- a label, which leaves room for the zero after it in a name of which `used` bytes are read
pub record HasRoom (used : ℕ) (label : List ℕ) : Type 0 where
  pub is_label : IsLabel label
  pub room : used + length label + 2 ≤ NAME_LIMIT

-- where a pointer of these two bytes leads: its last 14 bits
abbrev pub target_of : ℕ → ℕ → ℕ
target_of high low = 256 * (high - 192) + low

-- What comes next in a name shows this fault. Of the name `used` bytes are read, and its labels stand one
-- after another from the place `run` on.
abbrev pub Shows : ℕ → ℕ → List ℕ → NameFault → Type 0
-- the next byte is missing
Shows run used [] Short = Unit {0}
-- a label is cut off, or a pointer
Shows run used (n ∷ rest) Short =
    ((1 ≤ n) × (n ≤ LABEL_LIMIT) × (length rest < n)) ⊎ ((192 ≤ n) × (rest ≡ []))
-- the byte begins with the bits 01 or 10
Shows run used (n ∷ rest) LabelType = (64 ≤ n) × (n < 192)
-- a pointer leads to where the labels began, or after it
Shows run used (n ∷ low ∷ rest) Pointer = (192 ≤ n) × (run ≤ target_of n low)
-- the label is whole, and after it the zero has no room
Shows run used (n ∷ rest) TooLong =
    (1 ≤ n) × (n ≤ LABEL_LIMIT) × (n ≤ length rest) × (NAME_LIMIT < used + n + 2)
Shows run used bytes fault = ⊥

-- What stands at a place of a message, in a name of which `used` bytes are read, and whose labels stand one
-- after another from the place `run` on.
pub data GoesOn (message : List ℕ) : ℕ → ℕ → ℕ → NameOutcome → Type 0 where
  -- a zero ends the name
  ends : (run used place : ℕ) → Begins (drop place message) (0 ∷ []) →
      GoesOn message run used place (Ok ([], place + 1))
  -- a label, and what follows it
  label : (run used place : ℕ) (first : List ℕ) (others : NameOutcome) → HasRoom used first →
      Begins (drop place message) (label_octets first) →
      GoesOn message run (used + length first + 1) (place + length first + 1) others →
      GoesOn message run used place (with_labels (first ∷ []) others)
  -- a pointer to an earlier place, and what stands there; the name's end is behind the pointer
  pointer : (run used place high low : ℕ) (others : NameOutcome) → 192 ≤ high →
      target_of high low < run → Begins (drop place message) (high ∷ low ∷ []) →
      GoesOn message (target_of high low) used (target_of high low) others →
      GoesOn message run used place (with_after (place + 2) others)
  -- a fault
  fails : (run used place : ℕ) (fault : NameFault) → Shows run used (drop place message) fault →
      GoesOn message run used place (Err fault)

-- the name at a place of a message and the place after it, or the fault
abbrev pub NameAt : List ℕ → ℕ → NameOutcome → Type 0
NameAt message at outcome = GoesOn message at 0 at outcome
