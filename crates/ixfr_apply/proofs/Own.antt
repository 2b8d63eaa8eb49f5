-- The faults that a reader shows are those of messages and records.
use Rattle.std.proofs.Common.{ℕ, ◌+◌, Bool, true, false, cond, List, [], ◌∷◌, ◌++◌, length, Option, Some, None, Result, Ok, Err, subst}
use Rattle.std.specs.Option.{option_map}
use Rattle.std.specs.Prelude.{IfSome, IfErr, ◌==◌, ◌&&◌, ◌||◌, not, nat_le, is_some}
use Rattle.dns_name.specs.Alike.{same_name, ends_with}
use Rattle.dns_name.specs.Reading.{◌>>=◌}
use Rattle.dns_record.specs.declared.soa.Soa.{Soa}
use Rattle.dns_record.specs.Record.{PlainRecord}
use Rattle.dns_record.specs.Serial.{is_newer}
use Rattle.dns_message.specs.declared.fault.MessageFault.{MessageFault}
use Rattle.dns_message.specs.declared.message.Message.{Message}
use Rattle.dns_message.specs.Reading.{message_of}
use Rattle.axfr_apply.specs.declared.transfer_request.TransferRequest.{TransferRequest}
use Rattle.axfr_apply.specs.declared.transfer_request.Wanted.{Wanted}
use Rattle.axfr_apply.specs.declared.transfer_request.Wanted.TheVariants as wants
use Rattle.axfr_apply.specs.declared.fault.TransferError.{TransferError}
use Rattle.axfr_apply.specs.declared.fault.TransferError.TheVariants as errors
use Rattle.axfr_apply.specs.declared.fault.TransferFault.{TransferFault}
use Rattle.axfr_apply.specs.declared.fault.TransferFault.TheVariants.{WrongId, NotResponse, Truncated, Rcode, WrongQuestion, NoLeadingSoa, WrongClass, OutOfZone, WrongSoaOwner, SoaDiffers, Gap, SerialNotNewer, TrailingRecord, TooManyRecords}
use Rattle.axfr_apply.specs.Block.{Block, is_empty, is_incremental, holds_soa, soa_held, transfer_of}
use Rattle.axfr_apply.specs.Checks.{checked_head, checked_message, unless}
use Rattle.axfr_apply.specs.Reading.{End, answer_end, soa_block, begin_fault, behind_step_fault, close_fault, first_soa_end, first_step_fault, forward_fault, head_fault, later_soa_fault, open_end, place_fault, place_or, question_fits, soa_end, step_soa_fault}
use Rattle.ixfr_apply.specs.declared.progress.Progress.{Progress}
use Rattle.ixfr_apply.specs.declared.reader.Fed.{Fed}
use Rattle.ixfr_apply.specs.Feeding.{IsOfMessage, IsOfReader, FeedOutcome, feed_outcome, next_outcome, Meets}
use Rattle.ixfr_apply.specs.Progress.{Next, on, current, one_more, next_of, answer_run, answers_run, message_run, then_more}

abbrev IsOwn : Option TransferFault → Type 0
IsOwn fault = IfSome fault IsOfMessage

abbrev FailsOwn : {X : Type 0} → Result X TransferFault → Type 0
FailsOwn outcome = IfErr outcome IsOfMessage

five_own : (a b c d e : Bool) (rcode : ℕ) → IsOwn (cond a (Some WrongId) (cond b (Some NotResponse) (cond c (Some Truncated) (cond d (Some (Rcode rcode)) (cond e (Some WrongQuestion) None)))))
five_own true b c d e rcode = tt
five_own false true c d e rcode = tt
five_own false false true d e rcode = tt
five_own false false false true e rcode = tt
five_own false false false false true rcode = tt
five_own false false false false false rcode = tt

three_own : (a b c d : Bool) → IsOwn (cond a (Some WrongClass) (cond b (cond c None (Some WrongSoaOwner)) (cond d None (Some OutOfZone))))
three_own true b c d = tt
three_own false true true d = tt
three_own false true false d = tt
three_own false false c true = tt
three_own false false c false = tt

fails_if : {X : Type 0} (b : Bool) (x y : Result X TransferFault) → FailsOwn x → FailsOwn y → FailsOwn (cond b x y)
fails_if true x y p q = p
fails_if false x y p q = q

fails_then : {X Y : Type 0} (x : Result X TransferFault) (f : X → Result Y TransferFault) → FailsOwn x → ((v : X) → FailsOwn (f v)) → FailsOwn (x >>= f)
fails_then (Ok v) f p q = q v
fails_then (Err fault) f p q = p

own_head : (asked : TransferRequest) (is_first : Bool) (m : Message) → IsOwn (head_fault asked is_first m)
own_head asked is_first m =
    five_own (not (m.header.id == asked.id)) (not (m.header.qr && m.header.opcode == 0)) m.header.tc (not (m.header.rcode == 0)) (not (question_fits asked is_first m.question)) m.header.rcode

own_place : (origin : List (List ℕ)) (holds : Bool) (r : PlainRecord) → IsOwn (place_fault origin holds r)
own_place origin holds r = three_own (not (r.class == 1)) holds (same_name r.owner origin) (ends_with r.owner origin)

own_unless : {X : Type 0} (fault : Option TransferFault) (x : X) → IsOwn fault → FailsOwn (unless fault x)
own_unless None x p = tt
own_unless (Some fault) x p = p

own_checked : (asked : TransferRequest) (is_first : Bool) (read : Result Message MessageFault) → FailsOwn (checked_head asked is_first read)
own_checked asked is_first (Ok m) = own_unless (head_fault asked is_first m) m (own_head asked is_first m)
own_checked asked is_first (Err fault) = tt

-- an end that is one of these faults
abbrev EndsOwn : Option End → Type 0
EndsOwn end = IfSome end FailsOwn

own_if : (b : Bool) (x y : Option TransferFault) → IsOwn x → IsOwn y → IsOwn (cond b x y)
own_if true x y p q = p
own_if false x y p q = q

ends_if : (b : Bool) (x y : Option End) → EndsOwn x → EndsOwn y → EndsOwn (cond b x y)
ends_if true x y p q = p
ends_if false x y p q = q

ends_by : (fault : Option TransferFault) → IsOwn fault → EndsOwn (option_map Err fault)
ends_by None p = tt
ends_by (Some fault) p = p

own_forward : (ours theirs : ℕ) → IsOwn (forward_fault ours theirs)
own_forward ours theirs = own_if (is_newer ours theirs) None (Some (SerialNotNewer ours theirs)) tt tt

own_close : (newest found : ℕ) → IsOwn (close_fault newest found)
own_close newest found = own_if (found == newest) None (Some (SoaDiffers newest found)) tt tt

own_begin : (expected found : ℕ) → IsOwn (begin_fault expected found)
own_begin expected found = own_if (found == expected) None (Some (Gap expected found)) tt tt

own_behind : (newest new found : ℕ) → IsOwn (behind_step_fault newest new found)
own_behind newest new found = own_if (new == newest) (close_fault newest found) (begin_fault new found) (own_close newest found) (own_begin new found)

own_first_step : (wanted : Wanted) (newest found : ℕ) → IsOwn (first_step_fault wanted newest found)
own_first_step (wants.Whole have) newest found = own_close newest found
own_first_step (wants.Newer have) newest found = own_begin have found

own_step : (wanted : Wanted) (newest : ℕ) (bs : List Block) (found : ℕ) → IsOwn (step_soa_fault wanted newest bs found)
own_step wanted newest [] found = own_first_step wanted newest found
own_step wanted newest (old ∷ []) found = own_forward old.soa.serial found
own_step wanted newest (old ∷ new ∷ []) found = own_behind newest new.soa.serial found
own_step wanted newest (old ∷ new ∷ next ∷ others) found = own_step wanted newest (next ∷ others) found

own_later : (wanted : Wanted) (first : Block) (others : List Block) (soa : Soa) → IsOwn (later_soa_fault wanted first others soa)
own_later wanted first others soa =
    own_if (is_incremental (first ∷ (others ++ soa_block soa ∷ []))) (step_soa_fault wanted first.soa.serial others soa.serial) (close_fault first.soa.serial soa.serial)
    (own_step wanted first.soa.serial others soa.serial) (own_close first.soa.serial soa.serial)

own_first : (wanted : Wanted) (alone : Bool) (theirs : ℕ) → EndsOwn (first_soa_end wanted alone theirs)
own_first (wants.Whole None) alone theirs = tt
own_first (wants.Whole (Some ours)) alone theirs =
    ends_if (theirs == ours) (Some (Ok theirs)) (option_map Err (forward_fault ours theirs)) tt (ends_by (forward_fault ours theirs) (own_forward ours theirs))
own_first (wants.Newer ours) alone theirs =
    ends_if (theirs == ours || (alone && not (is_newer ours theirs))) (Some (Ok theirs)) (option_map Err (forward_fault ours theirs)) tt (ends_by (forward_fault ours theirs) (own_forward ours theirs))

own_soa : (wanted : Wanted) (alone : Bool) (bs : List Block) (soa : Soa) → EndsOwn (soa_end wanted alone bs soa)
own_soa wanted alone [] soa = own_first wanted alone soa.serial
own_soa wanted alone (first ∷ others) soa = ends_by (later_soa_fault wanted first others soa) (own_later wanted first others soa)

own_placed : (fault : Option TransferFault) (other : Option End) → IsOwn fault → EndsOwn other → EndsOwn (place_or fault other)
own_placed None other p q = q
own_placed (Some fault) other p q = p

own_open : (wanted : Wanted) (alone : Bool) (bs : List Block) (soa : Option Soa) (fault : Option TransferFault) → IsOwn fault → EndsOwn (open_end wanted alone bs soa fault)
own_open wanted alone bs None fault p = ends_if (is_empty bs) (Some (Err NoLeadingSoa)) (place_or fault None) tt (own_placed fault None p tt)
own_open wanted alone bs (Some soa) fault p = own_placed fault (soa_end wanted alone bs soa) p (own_soa wanted alone bs soa)

own_record : (asked : TransferRequest) (alone : Bool) (bs : List Block) (r : PlainRecord) → EndsOwn (answer_end asked alone bs r)
own_record asked alone bs r =
    let fault : Option TransferFault = place_fault asked.origin (holds_soa r) r in
    ends_if (is_some (transfer_of bs)) (Some (Err TrailingRecord)) (open_end asked.wanted alone bs (soa_held r) fault) tt
    (own_open asked.wanted alone bs (soa_held r) fault (own_place asked.origin (holds_soa r) r))

own_stepped : (p : Progress) (r : PlainRecord) (end : Option End) → EndsOwn end → FailsOwn (next_of p r end)
own_stepped p r None h = tt
own_stepped p r (Some (Ok theirs)) h = tt
own_stepped p r (Some (Err fault)) h = h

own_counted : (asked : TransferRequest) (p : Progress) → FailsOwn (one_more asked p)
own_counted asked p = fails_if (nat_le asked.most (p.count + 1)) (Err (TooManyRecords asked.most)) (Ok (record p { count = p.count + 1 })) tt tt

own_answer : (asked : TransferRequest) (alone : Bool) (p : Progress) (r : PlainRecord) → FailsOwn (answer_run asked alone p r)
own_answer asked alone p r =
    fails_then (one_more asked p) (λ now. next_of now r (answer_end asked alone now.gathered r)) (own_counted asked p)
    (λ now. own_stepped now r (answer_end asked alone now.gathered r) (own_record asked alone now.gathered r))

own_going : (f : Progress → Result Next TransferFault) → ((p : Progress) → FailsOwn (f p)) → (next : Next) → FailsOwn (then_more f next)
own_going f own (on p) = own p
own_going f own (current theirs) = tt

own_answers : (asked : TransferRequest) (alone : Bool) (p : Progress) (rs : List PlainRecord) → FailsOwn (answers_run asked alone p rs)
own_answers asked alone p [] = tt
own_answers asked alone p (r ∷ rs) =
    fails_then (answer_run asked alone p r) (then_more (λ now. answers_run asked alone now rs)) (own_answer asked alone p r)
    (own_going (λ now. answers_run asked alone now rs) (λ now. own_answers asked alone now rs))

own_message : (asked : TransferRequest) (p : Progress) (octets : List ℕ) → FailsOwn (message_run asked p octets)
unfolding message_run
own_message asked p octets = fails_then (one_more asked p) (λ now. checked_message asked (p.count == 0) octets >>= λ m. answers_run asked (length m.answer == 1) now m.answer) (own_counted asked p)
    (λ now. fails_then (checked_message asked (p.count == 0) octets) (λ m. answers_run asked (length m.answer == 1) now m.answer) (own_checked asked (p.count == 0) (message_of octets)) (λ m. own_answers asked (length m.answer == 1) now m.answer))

own_next : (next : Next) → FailsOwn (next_outcome next)
own_next (on p) = tt
own_next (current theirs) = tt

own_fate : (asked : TransferRequest) (p : Progress) (octets : List ℕ) → FailsOwn (feed_outcome asked (Some p) octets)
own_fate asked p octets = fails_then (message_run asked p octets) next_outcome (own_message asked p octets) own_next

own_error : (gives : Result FeedOutcome TransferFault) (e : TransferError) (new : Option Progress) → FailsOwn gives → Meets (Err e) new gives → IsOfReader e
own_error gives errors.OutOfMemory new own meets = tt
own_error gives (errors.Fault fault) new own meets = subst (λ (x : Result FeedOutcome TransferFault). FailsOwn x) meets.0 own

-- a fault that a reader shows is one of its message
pub own_result : (asked : TransferRequest) (p : Progress) (octets : List ℕ) (result : Result Fed TransferError) (new : Option Progress) → Meets result new (feed_outcome asked (Some p) octets) → IfErr result IsOfReader
own_result asked p octets (Ok x) new meets = tt
own_result asked p octets (Err e) new meets = own_error (feed_outcome asked (Some p) octets) e new (own_fate asked p octets) meets
