-- Words of addresses in labels.
use Rattle.std.specs.Prelude.{ℕ, ◌+◌, if◌then◌else◌, List, [], ◌∷◌, Option, None}
use Rattle.dns_name.specs.Labels.{Label}
use Rattle.trigger_codec.specs.Address.{is_zz, byte_read}

-- how many words the labels write, where `zz` stands for so many
abbrev pub word_count : ℕ → List Label → ℕ
word_count missing [] = 0
word_count missing (label ∷ labels) =
    (if is_zz label then missing else 1) + word_count missing labels

-- the byte that the first of the labels writes
abbrev pub first_byte : List Label → Option ℕ
first_byte [] = None
first_byte (label ∷ labels) = byte_read label
