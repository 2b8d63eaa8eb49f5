-- A name as text: labels of letters, digits, `-`, `_` and `*` with dots between them, and one dot at the
-- end or none (RFC 1035, sections 2.3.1 and 5.1; `_` as in RFC 8552, `*` as in RFC 4592).
use Rattle.std.specs.Prelude.{◌≡◌, ℕ, nat_lt, nat_le, nat_eq, ◌==◌, ◌-◌, Bool, not, ◌&&◌, ◌||◌, if◌then◌else◌, List, [], ◌∷◌, length, take, Result, Ok, Err}
use Rattle.std.specs.Char.{is_ascii_alphanumeric}
use Rattle.std.specs.List.{list_all, slice_split, ends_with, join_with_byte}
use Rattle.dns_name.specs.Labels.{name_octets, Name, Label}
use Rattle.dns_name.specs.declared.limits.TheConstants.{NAME_LIMIT, LABEL_LIMIT}
use Rattle.dns_name.specs.declared.fault.TextFault.{TextFault}
use Rattle.dns_name.specs.declared.fault.TextFault.TheVariants.{Empty, Label as LabelLength, Char, TooLong}
use Rattle.dns_name.specs.declared.fault.TextError.{TextError}
use Rattle.dns_name.specs.declared.fault.TextError.TheVariants as errors

-- a letter, a digit, `-`, `_` or `*`
abbrev pub is_label_byte : ℕ → Bool
is_label_byte b = is_ascii_alphanumeric b || (b == 45 || (b == 95 || b == 42))

abbrev pub is_dot : ℕ → Bool
is_dot b = b == 46

abbrev pub has_text_bytes : List ℕ → Bool
has_text_bytes text = list_all (λ b. is_label_byte b || is_dot b) text

-- the text without the dot at its end, if it has one
abbrev pub without_last_dot : List ℕ → List ℕ
without_last_dot text =
    if ends_with nat_eq text (46 ∷ []) then take (length text - 1) text else text

-- what stands before, between and after the dots
abbrev pub split_at_dots : List ℕ → List Label
split_at_dots text = slice_split is_dot text

-- each label has 1 to 63 bytes
abbrev pub has_label_lengths : List Label → Bool
has_label_lengths labels =
    list_all (λ label. nat_le 1 (length label) && nat_le (length label) LABEL_LIMIT) labels

abbrev pub text_labels : List ℕ → List Label
text_labels text = split_at_dots (without_last_dot text)

-- the name that a text gives, or the first fault
unfoldable pub text_name : List ℕ → Result Name TextFault
text_name text =
    if length (without_last_dot text) == 0 then Err Empty
    else (if not (has_text_bytes text) then Err Char
    else (if not (has_label_lengths (text_labels text)) then Err LabelLength
    else (if nat_lt NAME_LIMIT (length (name_octets (text_labels text))) then Err TooLong
    else Ok (text_labels text))))

-- What a function returned is the name of the text or its fault, unless memory ran out.
abbrev pub TextFails : TextError → Result Name TextFault → Type 0
TextFails errors.OutOfMemory read = Unit {0}
TextFails (errors.Fault fault) read = read ≡ Err fault

abbrev pub TextGives : Result Name TextError → Result Name TextFault → Type 0
TextGives (Ok name) read = read ≡ Ok name
TextGives (Err e) read = TextFails e read

-- each label has letters, digits, `-`, `_` and `*` only
abbrev pub has_label_bytes : Name → Bool
has_label_bytes name = list_all (λ label. list_all is_label_byte label) name

-- the labels of a name with dots between them
abbrev pub text_of : Name → List ℕ
text_of name = join_with_byte 46 name
