-- Why a zone doesn't take a transfer, as text: the name of the fault, and its numbers in their order, each after one space.
use Rattle.std.specs.Prelude.{ℕ, List, ◌++◌, codes, decimal}
use Rattle.axfr_apply.specs.declared.fault.TransferFault.{TransferFault}
use Rattle.axfr_apply.specs.declared.fault.TransferFault.TheVariants as transfer
use Rattle.zone_rows.specs.declared.fault.ApplyFault.{ApplyFault}
use Rattle.zone_rows.specs.declared.fault.ApplyFault.TheVariants as apply
use Rattle.script_codec.specs.declared.zone_fault.Numbers.{Numbers}
use Rattle.script_codec.specs.declared.zone_fault.Numbers.TheVariants.{Without, One, Two}
use Rattle.script_codec.specs.declared.zone_fault.ZoneFault.{ZoneFault}
use Rattle.script_codec.specs.declared.zone_fault.ZoneFault.TheVariants.{Fetch, Write, Transfer, Apply}

abbrev pub transfer_word : TransferFault → List ℕ
transfer_word transfer.ReadFault = codes "ReadFault"
transfer_word transfer.Cut = codes "Cut"
transfer_word transfer.EndedEarly = codes "EndedEarly"
transfer_word transfer.BadMessage = codes "BadMessage"
transfer_word transfer.WrongId = codes "WrongId"
transfer_word transfer.NotResponse = codes "NotResponse"
transfer_word transfer.Truncated = codes "Truncated"
transfer_word (transfer.Rcode rcode) = codes "Rcode"
transfer_word transfer.WrongQuestion = codes "WrongQuestion"
transfer_word transfer.NoLeadingSoa = codes "NoLeadingSoa"
transfer_word transfer.WrongClass = codes "WrongClass"
transfer_word transfer.OutOfZone = codes "OutOfZone"
transfer_word transfer.WrongSoaOwner = codes "WrongSoaOwner"
transfer_word (transfer.SoaDiffers first last) = codes "SoaDiffers"
transfer_word (transfer.Gap expected found) = codes "Gap"
transfer_word (transfer.SerialNotNewer ours theirs) = codes "SerialNotNewer"
transfer_word transfer.TrailingRecord = codes "TrailingRecord"
transfer_word (transfer.TooManyRecords at) = codes "TooManyRecords"
transfer_word transfer.Finished = codes "Finished"

abbrev pub transfer_numbers : TransferFault → Numbers
transfer_numbers (transfer.Rcode rcode) = One rcode
transfer_numbers (transfer.SoaDiffers first last) = Two first last
transfer_numbers (transfer.Gap expected found) = Two expected found
transfer_numbers (transfer.SerialNotNewer ours theirs) = Two ours theirs
transfer_numbers (transfer.TooManyRecords at) = One at
transfer_numbers fault = Without

abbrev pub apply_word : ApplyFault → List ℕ
apply_word (apply.SerialNotNewer ours theirs) = codes "SerialNotNewer"
apply_word (apply.Gap expected found) = codes "Gap"
apply_word (apply.DeleteAbsent step row) = codes "DeleteAbsent"
apply_word (apply.AddPresent step row) = codes "AddPresent"
apply_word (apply.TooManyRows at) = codes "TooManyRows"

abbrev pub apply_numbers : ApplyFault → Numbers
apply_numbers (apply.SerialNotNewer ours theirs) = Two ours theirs
apply_numbers (apply.Gap expected found) = Two expected found
apply_numbers (apply.DeleteAbsent step row) = Two step row
apply_numbers (apply.AddPresent step row) = Two step row
apply_numbers (apply.TooManyRows at) = One at

abbrev pub word_of : ZoneFault → List ℕ
word_of Fetch = codes "FetchFault"
word_of Write = codes "WriteFault"
word_of (Transfer fault) = transfer_word fault
word_of (Apply fault) = apply_word fault

abbrev pub numbers_of : ZoneFault → Numbers
numbers_of Fetch = Without
numbers_of Write = Without
numbers_of (Transfer fault) = transfer_numbers fault
numbers_of (Apply fault) = apply_numbers fault

-- the line of a fault of this word and these numbers
abbrev pub refused_line : ℕ → List ℕ → Numbers → List ℕ
refused_line zone word Without =
    codes "refused " ++ (decimal zone ++ (codes " " ++ (word ++ codes "\n")))
refused_line zone word (One number) =
    codes "refused "
    ++ (decimal zone ++ (codes " " ++ (word ++ (codes " " ++ (decimal number ++ codes "\n")))))
refused_line zone word (Two first second) =
    codes "refused "
    ++ (decimal zone
    ++ (codes " "
    ++ (word ++ (codes " " ++ (decimal first ++ (codes " " ++ (decimal second ++ codes "\n")))))))
