-- What stands behind the name of a zone.
use Rattle.std.specs.Prelude.{ℕ, if◌then◌else◌, List, [], ◌∷◌, Option, Some, None, Result, Ok, Err, codes}
use Rattle.std.specs.Str.{bytes_eq}
use Rattle.policy_override.specs.Override.{named_override}
use Rattle.policy_override.specs.declared.overrides.Override.{Override}
use Rattle.policy_override.specs.declared.overrides.Override.TheVariants.{Cname, Given}
use Rattle.script_codec.specs.declared.line_fault.LineFault.{LineFault}
use Rattle.script_codec.specs.declared.line_fault.LineFault.TheVariants as why
use Rattle.script_codec.specs.declared.overriding.OverrideText.{OverrideText}
use Rattle.script_codec.specs.declared.overriding.OverrideText.TheVariants.{Nothing, Word, Target}
use Rattle.script_codec.specs.Field.{name_field}
use Rattle.script_codec.specs.Fields.{first_field, no_more_fields, one_field}
use Rattle.dns_name.specs.Reading.{◌>>=◌}

-- nothing, a word, or `cname` and a target
pub data PlainOverrideText : Type 0 where
  nothing : PlainOverrideText
  word : List ℕ → PlainOverrideText
  target : List ℕ → PlainOverrideText

-- what the code holds by reference
abbrev pub text_seen : OverrideText → PlainOverrideText
text_seen Nothing = nothing
text_seen (Word text) = word text.now
text_seen (Target text) = target text.now

-- `WORD`, or `cname TARGET`
unfoldable pub worded_override : List (List ℕ) → Result PlainOverrideText LineFault
worded_override fields = do
  (first, others) ← first_field fields
  if bytes_eq first (codes "cname") then (one_field others >>= λ text. Ok (target text))
      else (no_more_fields others >>= λ _. Ok (word first))

-- the same, or nothing
abbrev pub override_text : List (List ℕ) → Result PlainOverrideText LineFault
override_text [] = Ok nothing
override_text (field ∷ fields) = worded_override (field ∷ fields)

-- the override that a word names, where it names one
abbrev pub known_override : Option Override → Result Override LineFault
known_override None = Err why.Override
known_override (Some over) = Ok over

-- The override that this sets; where nothing stands there, each rule does what the zone says.
abbrev pub override_field : PlainOverrideText → Result Override LineFault
override_field nothing = Ok Given
override_field (word text) = known_override (named_override text)
override_field (target text) = name_field text >>= λ name. Ok (Cname name)
