-- A transfer that was read from a stream fits what was wanted.
use Rattle.std.specs.Prelude.{◌≡◌, ℕ, zero, suc, nat_le, ◌+◌, Bool, List, [], ◌∷◌, ◌++◌, length, Option, Some, None, option_map, Ok, Err, refl}
use Rattle.std.specs.Option.{option_or}
use Rattle.std.proofs.Common.{ap, sym, ◌∙◌, subst, append_assoc, append-nil}
use Rattle.std.proofs.lemmas.Grind.{flat_map-append}
use Rattle.edge_io.specs.Frame.{Frame, none, cut, whole, frame_at}
use Rattle.dns_record.specs.Record.{PlainRecord}
use Rattle.zone_rows.specs.declared.transfer.Transfer.{Transfer}
use Rattle.axfr_apply.specs.declared.transfer_request.TransferRequest.{TransferRequest}
use Rattle.axfr_apply.specs.declared.fault.TransferFault.TheVariants.{TooManyRecords}
use Rattle.axfr_apply.specs.declared.taken.Taken.TheVariants.{New}
use Rattle.axfr_apply.specs.Block.{Block, blocks, transfer_of}
use Rattle.axfr_apply.specs.Gathered.{with_record}
use Rattle.axfr_apply.specs.Item.{TransferItem, head, answer, items, records, item_records}
use Rattle.axfr_apply.specs.Reading.{End, TransferOutcome, answer_end, end_by, end_outcome, first_end, outcome_of, new_outcome}
use Rattle.axfr_apply.proofs.OneMore.{one_more_record}
use Rattle.ixfr_apply.specs.Stream.{Read, read_end, read_from, read_of_frame, reading}
use Rattle.policy_feed.proofs.FitBlocks.{Fit, TransferFits, fit_record, no_more, transfer_fits}

-- the blocks of the records among items
abbrev pub blocks_of : List TransferItem → List Block
blocks_of its = blocks (records its)

records-answer : (its : List TransferItem) (alone : Bool) (r : PlainRecord) → records (its ++ answer alone r ∷ []) ≡ records its ++ r ∷ []
unfolding records
records-answer its alone r = flat_map-append item_records its (answer alone r ∷ [])

records-head : (its : List TransferItem) (octets : List ℕ) → records (its ++ head octets ∷ []) ≡ records its
unfolding records
records-head its octets = flat_map-append item_records its (head octets ∷ []) ∙ append-nil (records its)

-- an item that doesn't end the transfer
fit_item : (asked : TransferRequest) (its : List TransferItem) (it : TransferItem) → end_by asked its it ≡ None → Fit asked.wanted (blocks_of its) → Fit asked.wanted (blocks_of (its ++ it ∷ []))
fit_item asked its (head octets) e fit = subst (λ (rs : List PlainRecord). Fit asked.wanted (blocks rs)) (sym (records-head its octets)) fit
fit_item asked its (answer alone r) e fit =
    let goes : answer_end asked alone (blocks_of its) r ≡ None = no_more (nat_le asked.most (length its + 1)) (Err (TooManyRecords asked.most)) (answer_end asked alone (blocks_of its) r) e in
    let same : blocks_of (its ++ answer alone r ∷ []) ≡ with_record (blocks_of its) r = ap blocks (records-answer its alone r) ∙ one_more_record (records its) r in
    subst (Fit asked.wanted) (sym same) (fit_record asked alone (blocks_of its) r goes fit)

neither : (x y : Option End) → option_or x y ≡ None → (x ≡ None) × (y ≡ None)
neither None y e = (refl, e)
neither (Some x) y e = absurd cc

-- items that don't end it
fit_items : (asked : TransferRequest) (before its : List TransferItem) → first_end asked before its ≡ None → Fit asked.wanted (blocks_of before) → Fit asked.wanted (blocks_of (before ++ its))
unfolding first_end
fit_items asked before [] e fit = subst (λ (all : List TransferItem). Fit asked.wanted (blocks_of all)) (sym (append-nil before)) fit
fit_items asked before (it ∷ others) e fit =
    let parts = neither (end_by asked before it) (first_end asked (before ++ it ∷ []) others) e in
    subst (λ (all : List TransferItem). Fit asked.wanted (blocks_of all)) (append_assoc before (it ∷ []) others)
    (fit_items asked (before ++ it ∷ []) others parts.1 (fit_item asked before it parts.0 fit))

first_fits : (asked : TransferRequest) → Fit asked.wanted (blocks_of [])
unfolding records
first_fits asked = tt

-- a transfer that was taken was ended by no item
closed : (transfer : Transfer) (first : Option End) (last : Option Transfer) → option_or (option_map end_outcome first) (option_map new_outcome last) ≡ Some (Ok (New transfer))
    → (first ≡ None) × (last ≡ Some transfer)
closed transfer (Some (Ok theirs)) last e = absurd cc
closed transfer (Some (Err fault)) last e = absurd cc
closed transfer None None e = absurd cc
closed transfer None (Some other) e = (refl, cc)

messages_fit : (asked : TransferRequest) (messages : List (List ℕ)) (transfer : Transfer) → outcome_of asked messages ≡ Some (Ok (New transfer)) → TransferFits asked.wanted transfer
unfolding outcome_of
messages_fit asked messages transfer e =
    let its : List TransferItem = items messages in
    let both = closed transfer (first_end asked [] its) (transfer_of (blocks_of its)) e in
    transfer_fits asked.wanted (blocks_of its) transfer (fit_items asked [] its both.0 (first_fits asked)) both.1

-- what is read so, by what each frame and its messages give
abbrev Fits : TransferRequest → Transfer → Read → Type 0
Fits asked transfer read = read.0 ≡ Ok (New transfer) → TransferFits asked.wanted transfer

end_fits : (asked : TransferRequest) (transfer : Transfer) (go : List (List ℕ) → List ℕ → Read) (messages : List (List ℕ)) (rest : List ℕ) (outcome : Option TransferOutcome)
    → outcome_of asked messages ≡ outcome → Fits asked transfer (go messages rest) → Fits asked transfer (read_end go messages rest outcome)
end_fits asked transfer go messages rest (Some outcome) ends fits e = messages_fit asked messages transfer (ends ∙ ap Some e)
end_fits asked transfer go messages rest None ends fits e = fits e

frame_fits : (asked : TransferRequest) (transfer : Transfer) (go : List (List ℕ) → List ℕ → Read) (before : List (List ℕ)) (frame : Frame)
    → ((messages : List (List ℕ)) (rest : List ℕ) → Fits asked transfer (go messages rest)) → Fits asked transfer (read_of_frame go asked before frame)
frame_fits asked transfer go before none fits e = absurd cc
frame_fits asked transfer go before cut fits e = absurd cc
frame_fits asked transfer go before (whole message rest) fits e =
    end_fits asked transfer go (before ++ message ∷ []) rest (outcome_of asked (before ++ message ∷ [])) refl (fits (before ++ message ∷ []) rest) e

frames_fit : (asked : TransferRequest) (transfer : Transfer) (frames : ℕ) (before : List (List ℕ)) (bytes : List ℕ) → Fits asked transfer (read_from frames asked before bytes)
unfolding read_from
frames_fit asked transfer zero before bytes e = absurd cc
frames_fit asked transfer (suc frames) before bytes e =
    frame_fits asked transfer (read_from frames asked) before (frame_at bytes) (λ messages rest. frames_fit asked transfer frames messages rest) e

pub reading_fits : (asked : TransferRequest) (transfer : Transfer) (bytes : List ℕ) → (reading asked bytes).0 ≡ Ok (New transfer) → TransferFits asked.wanted transfer
unfolding reading
reading_fits asked transfer bytes e = frames_fit asked transfer (length bytes + 1) [] bytes e
