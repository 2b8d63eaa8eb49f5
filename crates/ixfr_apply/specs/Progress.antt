-- How far a transfer has come, and what each message does to it: what code keeps in place of all messages.
use Rattle.std.specs.Prelude.{◌≡◌, ℕ, ◌+◌, ◌==◌, nat_le, Bool, true, false, if◌then◌else◌, List, [], ◌∷◌, length, Option, Some, None, Result, Ok, Err, ⊤}
use Rattle.dns_name.specs.Reading.{◌>>=◌}
use Rattle.dns_record.specs.declared.soa.Soa.{Soa}
use Rattle.dns_record.specs.Record.{PlainRecord}
use Rattle.axfr_apply.specs.declared.transfer_request.TransferRequest.{TransferRequest}
use Rattle.axfr_apply.specs.declared.fault.TransferError.{TransferError}
use Rattle.axfr_apply.specs.declared.fault.TransferError.TheVariants as errors
use Rattle.axfr_apply.specs.declared.fault.TransferFault.{TransferFault}
use Rattle.axfr_apply.specs.declared.fault.TransferFault.TheVariants.{TooManyRecords}
use Rattle.axfr_apply.specs.Checks.{checked_message}
use Rattle.axfr_apply.specs.Gathered.{with_record}
use Rattle.axfr_apply.specs.Reading.{End, answer_end, open_end, place_fault}
use Rattle.ixfr_apply.specs.declared.progress.Progress.{Progress}

-- the transfer goes on from here, or we are current, at this serial
pub data Next : Type 0 where
  on : Progress → Next
  current : ℕ → Next

-- nothing came yet
abbrev pub new_progress : Progress
new_progress = record { count = 0; gathered = [] }

-- one more message or record
abbrev pub one_more : TransferRequest → Progress → Result Progress TransferFault
one_more asked p =
    if nat_le asked.most (p.count + 1) then Err (TooManyRecords asked.most)
    else Ok (record p { count = p.count + 1 })

-- what a record does, by how it ends the transfer, or that it doesn't
abbrev pub next_of : Progress → PlainRecord → Option End → Result Next TransferFault
next_of p r None = Ok (on (record { count = p.count; gathered = with_record p.gathered r }))
next_of p r (Some (Ok theirs)) = Ok (current theirs)
next_of p r (Some (Err fault)) = Err fault

-- what a counted record does that holds no SOA, and one that holds this SOA, where the transfer isn't closed
abbrev pub row_run : TransferRequest → Progress → PlainRecord → Result Next TransferFault
row_run asked p r =
    next_of p r (open_end asked.wanted false p.gathered None (place_fault asked.origin false r))

abbrev pub soa_run : TransferRequest → Bool → Progress → PlainRecord → Soa →
    Result Next TransferFault
soa_run asked alone p r soa =
    next_of p r
    (open_end asked.wanted alone p.gathered (Some soa) (place_fault asked.origin true r))

-- what a counted answer record does
abbrev pub counted_run : TransferRequest → Bool → Progress → PlainRecord → Result Next TransferFault
counted_run asked alone p r = next_of p r (answer_end asked alone p.gathered r)

-- what an answer record does
abbrev pub answer_run : TransferRequest → Bool → Progress → PlainRecord → Result Next TransferFault
answer_run asked alone p r = one_more asked p >>= λ now. counted_run asked alone now r

-- what is done further, where the transfer goes on
abbrev pub then_more : (Progress → Result Next TransferFault) → Next → Result Next TransferFault
then_more more (on p) = more p
then_more more (current theirs) = Ok (current theirs)

-- what answer records of one message do
abbrev pub answers_run : TransferRequest → Bool → Progress → List PlainRecord →
    Result Next TransferFault
answers_run asked alone p [] = Ok (on p)
answers_run asked alone p (r ∷ rs) =
    answer_run asked alone p r >>= then_more (λ now. answers_run asked alone now rs)

-- what a message does
unfoldable pub message_run : TransferRequest → Progress → List ℕ → Result Next TransferFault
message_run asked p octets = do
  now ← one_more asked p
  m ← checked_message asked (p.count == 0) octets
  answers_run asked (length m.answer == 1) now m.answer

-- the count rose, or there were too many
abbrev pub Counts : Result (Unit {0}) TransferFault → Progress → Result Progress TransferFault →
    Type 0
Counts (Ok u) new gives = gives ≡ Ok new
Counts (Err fault) new gives = gives ≡ Err fault

-- what a function did to the progress
abbrev pub Takes : Result (Option ℕ) TransferError → Progress → Result Next TransferFault → Type 0
Takes (Ok None) new gives = gives ≡ Ok (on new)
Takes (Ok (Some theirs)) new gives = gives ≡ Ok (current theirs)
Takes (Err errors.OutOfMemory) new gives = ⊤
Takes (Err (errors.Fault fault)) new gives = gives ≡ Err fault

-- the same of a row
abbrev pub TakesRow : Result (Unit {0}) TransferError → Progress → Result Next TransferFault →
    Type 0
TakesRow (Ok u) new gives = gives ≡ Ok (on new)
TakesRow (Err errors.OutOfMemory) new gives = ⊤
TakesRow (Err (errors.Fault fault)) new gives = gives ≡ Err fault
