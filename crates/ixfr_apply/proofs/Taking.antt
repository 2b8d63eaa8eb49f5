-- What a counted record does, by what it holds.
use Rattle.std.proofs.Common.{◌≡◌, Bool, false, Some, refl}
use Rattle.std.specs.Prelude.{is_some}
use Rattle.dns_record.specs.declared.soa.Soa.{Soa}
use Rattle.dns_record.specs.Record.{PlainRecord}
use Rattle.axfr_apply.specs.declared.transfer_request.TransferRequest.{TransferRequest}
use Rattle.axfr_apply.specs.Block.{soa_held, transfer_of}
use Rattle.ixfr_apply.specs.declared.progress.Progress.{Progress}
use Rattle.ixfr_apply.specs.Progress.{counted_run, soa_run}

-- one that holds this SOA, where the transfer isn't closed
pub soa_counted : (asked : TransferRequest) (alone : Bool) (p : Progress) (r : PlainRecord) (soa : Soa) → is_some (transfer_of p.gathered) ≡ false → soa_held r ≡ Some soa → counted_run asked alone p r ≡ soa_run asked alone p r soa
soa_counted asked alone p r soa still held = rw (still, held) refl
