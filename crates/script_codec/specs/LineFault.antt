-- Why a line is refused, as text.
use Rattle.std.specs.Prelude.{ℕ, List, codes}
use Rattle.script_codec.specs.declared.line_fault.LineFault.{LineFault}
use Rattle.script_codec.specs.declared.line_fault.LineFault.TheVariants as why

abbrev pub why_text : LineFault → List ℕ
why_text why.Lines = codes "Lines"
why_text why.TooLong = codes "TooLong"
why_text why.Char = codes "Char"
why_text why.Word = codes "Word"
why_text why.Fields = codes "Fields"
why_text why.Name = codes "Name"
why_text why.Override = codes "Override"
why_text why.Late = codes "Late"
why_text why.Many = codes "Many"
why_text why.Repeated = codes "Repeated"
why_text why.Number = codes "Number"
why_text why.NoZone = codes "NoZone"
why_text why.NoWorker = codes "NoWorker"
why_text why.Transport = codes "Transport"
why_text why.Address = codes "Address"
why_text why.Prefix = codes "Prefix"
why_text why.Hex = codes "Hex"
why_text why.Long = codes "Long"
why_text why.Busy = codes "Busy"
why_text why.Idle = codes "Idle"
