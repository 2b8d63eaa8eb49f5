-- Which error of a transfer an error of a message or of a frame becomes.
use Rattle.std.specs.Prelude.{◌≡◌}
use Rattle.dns_message.specs.declared.fault.MessageError.{MessageError}
use Rattle.dns_message.specs.declared.fault.MessageError.TheVariants as message
use Rattle.edge_io.specs.declared.frame.FrameError.{FrameError}
use Rattle.edge_io.specs.declared.frame.FrameError.TheVariants as frame
use Rattle.edge_io.specs.declared.frame.FrameFault.TheVariants as frame_fault
use Rattle.axfr_apply.specs.declared.fault.TransferError.{TransferError}
use Rattle.axfr_apply.specs.declared.fault.TransferError.TheVariants.{OutOfMemory, Fault}
use Rattle.axfr_apply.specs.declared.fault.TransferFault.TheVariants.{ReadFault, Cut, BadMessage}

abbrev pub MessageBecomes : MessageError → TransferError → Type 0
MessageBecomes message.OutOfMemory e = e ≡ OutOfMemory
MessageBecomes (message.Fault fault) e = e ≡ Fault BadMessage

abbrev pub FrameBecomes : FrameError → TransferError → Type 0
FrameBecomes frame.OutOfMemory e = e ≡ OutOfMemory
FrameBecomes (frame.Fault frame_fault.ReadFault) e = e ≡ Fault ReadFault
FrameBecomes (frame.Fault frame_fault.Cut) e = e ≡ Fault Cut
