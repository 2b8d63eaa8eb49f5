-- The lines of the transcript.
use Rattle.std.specs.Prelude.{ℕ, List, ◌++◌, codes, decimal}
use Rattle.hex.specs.Hex.{encode_lower}
use Rattle.script_codec.specs.declared.shown.Shown.{Shown}
use Rattle.script_codec.specs.declared.shown.Shown.TheVariants.{Taken, Current, Refused, Ask, Reply, Silent, Notified, Hush, Due}
use Rattle.script_codec.specs.ZoneFault.{refused_line, word_of, numbers_of}

-- a word, the number of a worker, and a message in hexadecimal digits
abbrev pub message_line : List ℕ → ℕ → List ℕ → List ℕ
message_line word worker message =
    word ++ codes " " ++ decimal worker ++ codes " " ++ encode_lower message ++ codes "\n"

-- the reply to a NOTIFY in hexadecimal digits
abbrev pub notified_line : List ℕ → List ℕ
notified_line message = codes "notified " ++ encode_lower message ++ codes "\n"

-- the line that shows this
abbrev pub shown_line : Shown → List ℕ
shown_line (Taken zone serial rows) =
    codes "taken " ++ decimal zone ++ codes " " ++ decimal serial ++ codes " " ++ decimal rows
    ++ codes "\n"
shown_line (Current zone serial) =
    codes "current " ++ decimal zone ++ codes " " ++ decimal serial ++ codes "\n"
shown_line (Refused zone why) = refused_line zone (word_of why) (numbers_of why)
shown_line (Ask worker message) = message_line (codes "ask") worker message
shown_line (Reply worker message) = message_line (codes "reply") worker message
shown_line (Silent worker) = codes "silent " ++ decimal worker ++ codes "\n"
shown_line (Notified message) = notified_line message
shown_line Hush = codes "hush\n"
shown_line (Due zone) = codes "due " ++ decimal zone ++ codes "\n"
