-- The fields of a line: what stands before, between and after its spaces.
use Rattle.std.specs.Prelude.{ℕ, ◌==◌, Bool, if◌then◌else◌, List, [], ◌∷◌, length, Option, Some, None, Result, Ok, Err}
use Rattle.std.specs.List.{slice_split}
use Rattle.std.specs.Borrow.{Bor}
use Rattle.script_codec.specs.declared.line_fault.LineFault.{LineFault}
use Rattle.script_codec.specs.declared.line_fault.LineFault.TheVariants as why
use Rattle.dns_name.specs.Reading.{◌>>=◌}

abbrev pub is_space : ℕ → Bool
is_space b = b == 32

-- The fields of a line, between single spaces.
abbrev pub fields_of : List ℕ → List (List ℕ)
fields_of text = slice_split is_space text

-- the fields of what is left of a line, if anything is
abbrev pub fields_left : Option (Bor (List ℕ)) → List (List ℕ)
fields_left None = []
fields_left (Some text) = fields_of text.now

-- the first field, which is not empty, and the others
abbrev pub first_field : List (List ℕ) → Result (List ℕ × List (List ℕ)) LineFault
first_field [] = Err why.Fields
first_field (field ∷ others) = if length field == 0 then Err why.Fields else Ok (field, others)

-- there are no fields
abbrev pub no_more_fields : List (List ℕ) → Result (Unit {0}) LineFault
no_more_fields [] = Ok tt
no_more_fields (field ∷ others) = Err why.Fields

-- the one field
unfoldable pub one_field : List (List ℕ) → Result (List ℕ) LineFault
one_field fields = do
  (first, others) ← first_field fields
  _ ← no_more_fields others
  Ok first

-- the two fields
unfoldable pub two_fields : List (List ℕ) → Result (List ℕ × List ℕ) LineFault
two_fields fields = do
  (first, others) ← first_field fields
  second ← one_field others
  Ok (first, second)

-- the four fields
unfoldable pub four_fields : List (List ℕ) → Result (List ℕ × List ℕ × List ℕ × List ℕ) LineFault
four_fields fields = do
  (first, others) ← first_field fields
  (second, others) ← first_field others
  (third, fourth) ← two_fields others
  Ok (first, second, third, fourth)
