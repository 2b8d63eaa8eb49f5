-- Which name stands at a place of a message, or which fault does (RFC 1035, sections 3.1 and 4.1.4).
use Rattle.std.specs.Prelude.{◌≡◌, ℕ, zero, suc, nat_lt, ◌==◌, if◌then◌else◌, ◌+◌, ◌-◌, ◌*◌, List, [], ◌∷◌, ◌++◌, length, take, drop, Result, Ok, Err}
use Rattle.dns_name.specs.Labels.{Name}
use Rattle.dns_name.specs.declared.fault.NameFault.{NameFault}
use Rattle.dns_name.specs.declared.fault.NameFault.TheVariants.{Short, LabelType, Pointer, TooLong}
use Rattle.dns_name.specs.declared.limits.TheConstants.{NAME_LIMIT}
use Rattle.dns_name.specs.declared.fault.NameError.{NameError}
use Rattle.dns_name.specs.declared.fault.NameError.TheVariants as errors

-- what a name goes on with
pub data Piece : Type 0 where
  end : Piece
  label : List ℕ → Piece
  pointer : ℕ → Piece

-- a pointer with this first byte, whose last 14 bits lead to a place before `run`, where the current labels began
abbrev pub pointer_at : ℕ → ℕ → List ℕ → Result Piece NameFault
pointer_at run high [] = Err Short
pointer_at run high (low ∷ rest) =
    let target = 256 * (high - 192) + low in
    if nat_lt target run then Ok (pointer target) else Err Pointer

-- The piece that the bytes begin with, or the first fault. Of the name `used` bytes are read, and its labels stand one after
-- another from the place `run` on.
abbrev pub piece_at : ℕ → ℕ → List ℕ → Result Piece NameFault
piece_at run used [] = Err Short
piece_at run used (n ∷ rest) =
    if n == 0 then Ok end
    else (if nat_lt n 64
    then (if nat_lt (length rest) n then Err Short
    else (if nat_lt NAME_LIMIT (used + n + 2) then Err TooLong else Ok (label (take n rest))))
    else (if nat_lt n 192 then Err LabelType else pointer_at run n rest))

-- what follows a result, which ends at the first fault
infixl 10 ◌>>=◌
abbrev pub ◌>>=◌ : {E A B : Type 0} → Result A E → (A → Result B E) → Result B E
(Ok x) >>= f = f x
(Err e) >>= f = Err e

-- a name and the place after it, or a fault
abbrev pub NameOutcome : Type 0
NameOutcome = Result (Name × ℕ) NameFault

-- labels before what is read
abbrev pub with_labels : Name → NameOutcome → NameOutcome
with_labels front (Ok (labels, after)) = Ok (front ++ labels, after)
with_labels front (Err fault) = Err fault

-- the place after what is read
abbrev pub with_after : ℕ → NameOutcome → NameOutcome
with_after after (Ok (labels, _)) = Ok (labels, after)
with_after after (Err fault) = Err fault

-- what follows a piece
abbrev pub follow : (ℕ → ℕ → ℕ → NameOutcome) → ℕ → ℕ → ℕ → Piece → NameOutcome
follow go run used place end = Ok ([], place + 1)
follow go run used place (label first) =
    with_labels (first ∷ []) (go run (used + length first + 1) (place + length first + 1))
follow go run used place (pointer target) = with_after (place + 2) (go target used target)

-- the name from a place on, in at most so many pieces
unfoldable pub name_from : ℕ → List ℕ → ℕ → ℕ → ℕ → NameOutcome
name_from zero message run used place = Err Short
name_from (suc pieces) message run used place =
    piece_at run used (drop place message) >>= follow (name_from pieces message) run used place

-- The name at a place of a message and the place after it, or the fault. Each pointer leads before the place
-- of the one before it, and a name has at most 127 labels, so the number of pieces never ends the reading.
unfoldable pub name_at : List ℕ → ℕ → NameOutcome
name_at message at = name_from (256 * at + 256) message at 0 at

-- What a function returned, seen by view, is what reading gives, unless memory ran out.
abbrev pub Fails : {Y : Type 0} → NameError → Result Y NameFault → Type 0
Fails errors.OutOfMemory read = Unit {0}
Fails (errors.Fault f) read = read ≡ Err f

abbrev pub Gives : {X Y : Type 0} → (X → Y) → Result X NameError → Result Y NameFault → Type 0
Gives view (Ok x) read = read ≡ Ok (view x)
Gives view (Err e) read = Fails e read
