-- What the parts of a poll do: see src/taking.rt.
use Rattle.std.specs.Prelude.{◌≡◌, ℕ, false, Result, Ok, Err}
use Rattle.zone_rows.specs.declared.transfer.Transfer.{Transfer}
use Rattle.zone_rows.specs.declared.zone.PlainZone.{PlainZone}
use Rattle.zone_rows.specs.Zone.{apply_outcome}
use Rattle.axfr_apply.specs.declared.fault.TransferError.{TransferError}
use Rattle.axfr_apply.specs.declared.fault.TransferError.TheVariants as transfer_errors
use Rattle.axfr_apply.specs.declared.taken.Taken.{Taken}
use Rattle.axfr_apply.specs.declared.taken.Taken.TheVariants as taken
use Rattle.policy_publish.specs.Lists.{Published}
use Rattle.policy_publish.specs.Publishing.{Publishes}
use Rattle.policy_feed.specs.declared.fault.FeedError.{FeedError}
use Rattle.policy_feed.specs.declared.fault.FeedError.TheVariants as errors
use Rattle.policy_feed.specs.declared.fault.FeedFault.TheVariants.{Transfer as TransferFaulty, Apply}
use Rattle.policy_feed.specs.declared.polling.Polled.{Polled}
use Rattle.policy_feed.specs.declared.polling.Polled.TheVariants.{Current, New}
use Rattle.policy_feed.specs.Poll.{with_zone_mark, after_refusal}

-- what a transfer that was read does: it is published, or memory runs out, or the zone can't take it
abbrev pub Offers : ℕ → PlainZone → Transfer → Result Polled FeedError → Published → Published →
    Type 0
Offers number zone transfer (Ok (Current theirs)) old new = ⊥
Offers number zone transfer (Ok (New told)) old new =
    Publishes number zone transfer (Ok told) old new
Offers number zone transfer (Err errors.OutOfMemory) old new = new ≡ old
Offers number zone transfer (Err (errors.Fault (TransferFaulty fault))) old new = ⊥
Offers number zone transfer (Err (errors.Fault (Apply fault))) old new =
    (apply_outcome zone transfer ≡ Err fault) × (new ≡ after_refusal old number zone)

-- How a poll ends of whose transfer this was read, by its result: the zone is current; the transfer is published; memory ran out, and
-- all that is published is as it was; what was read has a fault; or the zone can't take it. Only a transfer that is published adds an
-- entry to the list.
abbrev pub Ends : ℕ → PlainZone → Result Taken TransferError → Result Polled FeedError → Published →
    Published → Type 0
Ends number zone read (Ok (Current theirs)) old new =
    (read ≡ Ok (taken.Current theirs)) × (new ≡ with_zone_mark old number false)
Ends number zone read (Ok (New told)) old new =
    (transfer : Transfer) × (read ≡ Ok (taken.New transfer))
    × Publishes number zone transfer (Ok told) old new
Ends number zone read (Err errors.OutOfMemory) old new = new ≡ old
Ends number zone read (Err (errors.Fault (TransferFaulty fault))) old new =
    (read ≡ Err (transfer_errors.Fault fault)) × (new ≡ after_refusal old number zone)
Ends number zone read (Err (errors.Fault (Apply fault))) old new =
    (transfer : Transfer) × (read ≡ Ok (taken.New transfer))
    × (apply_outcome zone transfer ≡ Err fault) × (new ≡ after_refusal old number zone)
