-- A transfer comes on with each message.
use Rattle.std.proofs.Common.{◌≡◌, ℕ, ◌+◌, ◌<◌, ◌≤◌, Bool, true, false, List, [], ◌∷◌, length, Option, Some, None, Result, Ok, Err, refl, subst, arith, leb-false}
use Rattle.std.specs.Prelude.{nat_le, ◌==◌}
use Rattle.dns_name.specs.Reading.{◌>>=◌}
use Rattle.dns_record.specs.Record.{PlainRecord}
use Rattle.dns_message.specs.declared.message.Message.{Message}
use Rattle.axfr_apply.specs.declared.transfer_request.TransferRequest.{TransferRequest}
use Rattle.axfr_apply.specs.declared.fault.TransferFault.{TransferFault}
use Rattle.axfr_apply.specs.Checks.{checked_message}
use Rattle.axfr_apply.specs.Reading.{End, answer_end}
use Rattle.ixfr_apply.specs.declared.progress.Progress.{Progress}
use Rattle.ixfr_apply.specs.Progress.{Next, on, current, next_of, answer_run, answers_run, message_run, then_more}

-- the count after the progress
abbrev Rises : TransferRequest → ℕ → Result Next TransferFault → Type 0
Rises asked count (Ok (on q)) = (count ≤ q.count) × (q.count < asked.most)
Rises asked count (Ok (current theirs)) = Unit {0}
Rises asked count (Err fault) = Unit {0}

next_rises : (asked : TransferRequest) (p : Progress) (r : PlainRecord) (end : Option End) → p.count < asked.most → Rises asked p.count (next_of p r end)
next_rises asked p r None few = (omega arith, few)
next_rises asked p r (Some (Ok theirs)) few = tt
next_rises asked p r (Some (Err fault)) few = tt

lower : (asked : TransferRequest) (a b : ℕ) (run : Result Next TransferFault) → a ≤ b → Rises asked b run → Rises asked a run
lower asked a b (Ok (on q)) le rises = (omega (arith, le, rises.0), rises.1)
lower asked a b (Ok (current theirs)) le rises = tt
lower asked a b (Err fault) le rises = tt

answer_by : (asked : TransferRequest) (alone : Bool) (p : Progress) (r : PlainRecord) (t : Bool) → nat_le asked.most (p.count + 1) ≡ t → Rises asked p.count (answer_run asked alone p r)
answer_by asked alone p r true e = rw e tt
answer_by asked alone p r false e =
    let few : p.count + 1 < asked.most = omega (arith, leb-false _ _ e) in
    let q : Progress = record { count = p.count + 1; gathered = p.gathered } in
    let end : Option End = answer_end asked alone p.gathered r in
    rw e (lower asked p.count (p.count + 1) (next_of q r end) (omega arith) (next_rises asked q r end few))

answers_by : (asked : TransferRequest) (alone : Bool) (p : Progress) (rs : List PlainRecord) (run : Result Next TransferFault) → Rises asked p.count run → ((q : Progress) → q.count < asked.most → Rises asked q.count (answers_run asked alone q rs))
    → Rises asked p.count (run >>= then_more (λ now. answers_run asked alone now rs))
answers_by asked alone p rs (Err fault) rises more = tt
answers_by asked alone p rs (Ok (current theirs)) rises more = tt
answers_by asked alone p rs (Ok (on q)) rises more = lower asked p.count q.count (answers_run asked alone q rs) rises.0 (more q rises.1)

answers_rise : (asked : TransferRequest) (alone : Bool) (p : Progress) (rs : List PlainRecord) → p.count < asked.most → Rises asked p.count (answers_run asked alone p rs)
answers_rise asked alone p [] few = (omega arith, few)
answers_rise asked alone p (r ∷ rs) few =
    answers_by asked alone p rs (answer_run asked alone p r) (answer_by asked alone p r (nat_le asked.most (p.count + 1)) refl) (λ q h. answers_rise asked alone q rs h)

head_by : (asked : TransferRequest) (p : Progress) (m : Result Message TransferFault) → p.count < asked.most → Rises asked p.count (m >>= λ x. answers_run asked (length x.answer == 1) p x.answer)
head_by asked p (Err fault) few = tt
head_by asked p (Ok m) few = answers_rise asked (length m.answer == 1) p m.answer few

message_by : (asked : TransferRequest) (p : Progress) (octets : List ℕ) (t : Bool) → nat_le asked.most (p.count + 1) ≡ t → Rises asked (p.count + 1) (message_run asked p octets)
unfolding message_run
message_by asked p octets true e = rw e tt
message_by asked p octets false e =
    let few : p.count + 1 < asked.most = omega (arith, leb-false _ _ e) in
    rw e (head_by asked (record { count = p.count + 1; gathered = p.gathered }) (checked_message asked (p.count == 0) octets) few)

pub message_rises : (asked : TransferRequest) (p q : Progress) (octets : List ℕ) → message_run asked p octets ≡ Ok (on q) → (p.count < q.count) × (q.count < asked.most)
message_rises asked p q octets e =
    let rises : Rises asked (p.count + 1) (Ok (on q)) = subst (Rises asked (p.count + 1)) e (message_by asked p octets (nat_le asked.most (p.count + 1)) refl) in
    (omega (arith, rises.0), rises.1)
