-- Why a transfer that was read is refused.
use Rattle.std.specs.Prelude.{⊤}
use Rattle.zone_rows.specs.declared.fault.ApplyFault.{ApplyFault}
use Rattle.zone_rows.specs.declared.fault.ApplyFault.TheVariants.{SerialNotNewer, Gap, DeleteAbsent, AddPresent, TooManyRows}

-- the fault is one of the rows, and not of the serials
abbrev pub IsAboutRows : ApplyFault → Type 0
IsAboutRows (SerialNotNewer ours theirs) = ⊥
IsAboutRows (Gap expected found) = ⊥
IsAboutRows (DeleteAbsent step row) = ⊤
IsAboutRows (AddPresent step row) = ⊤
IsAboutRows (TooManyRows at) = ⊤
