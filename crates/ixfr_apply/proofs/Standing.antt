-- How far the items that were read bring a transfer.
use Rattle.std.proofs.Common.{◌≡◌, ℕ, ◌+◌, Bool, true, false, List, [], ◌∷◌, ◌++◌, length, map, Option, Some, None, Result, Ok, Err, refl, sym, ap, ◌∙◌, append_assoc, append-nil, length-append, arith}
use Rattle.std.specs.Prelude.{nat_le, ◌==◌}
use Rattle.std.specs.Option.{option_or}
use Rattle.std.specs.List.{flat_map}
use Rattle.std.proofs.lemmas.Grind.{flat_map-append}
use Rattle.dns_name.specs.Reading.{◌>>=◌}
use Rattle.dns_record.specs.Record.{PlainRecord}
use Rattle.dns_message.specs.declared.fault.MessageFault.{MessageFault}
use Rattle.dns_message.specs.declared.message.Message.{Message}
use Rattle.dns_message.specs.Reading.{message_of}
use Rattle.axfr_apply.specs.declared.transfer_request.TransferRequest.{TransferRequest}
use Rattle.axfr_apply.specs.declared.fault.TransferFault.{TransferFault}
use Rattle.axfr_apply.specs.declared.fault.TransferFault.TheVariants.{TooManyRecords}
use Rattle.axfr_apply.specs.Block.{Block, blocks}
use Rattle.axfr_apply.specs.Checks.{checked_head, unless}
use Rattle.axfr_apply.specs.Gathered.{with_record}
use Rattle.axfr_apply.specs.Item.{TransferItem, head, answer, answers, items_of, answers_in, records, item_records}
use Rattle.axfr_apply.specs.Reading.{End, answer_end, head_fault, end_by, first_end}
use Rattle.ixfr_apply.specs.declared.progress.Progress.{Progress}
use Rattle.ixfr_apply.specs.Feeding.{Stands}
use Rattle.ixfr_apply.specs.Progress.{Next, on, current, next_of, answer_run, answers_run, message_run, then_more}
use Rattle.ixfr_apply.proofs.Ends.{first_end-one, first_end-append, first_end-behind}

-- a record is a block or a row behind the blocks of those before it
abbrev pub GoesByRecords : Type 0
GoesByRecords = (rs : List PlainRecord) (r : PlainRecord) → blocks (rs ++ r ∷ []) ≡ with_record (blocks rs) r

-- what was done with items agrees with how they end the transfer
abbrev pub Agrees : TransferRequest → List TransferItem → List TransferItem → Result Next TransferFault → Type 0
Agrees asked its more (Ok (on p)) = Stands asked p (its ++ more)
Agrees asked its more (Ok (current theirs)) = first_end asked its more ≡ Some (Ok theirs)
Agrees asked its more (Err fault) = first_end asked its more ≡ Some (Err fault)

-- items behind others that end the transfer, or don't
ends_more : (asked : TransferRequest) (its xs ys : List TransferItem) (end : End) → first_end asked its xs ≡ Some end → first_end asked its (xs ++ ys) ≡ Some end
ends_more asked its xs ys end e = first_end-append asked its xs ys ∙ ap (λ (x : Option End). option_or x (first_end asked (its ++ xs) ys)) e

goes_more : (asked : TransferRequest) (its xs ys : List TransferItem) → first_end asked its xs ≡ None → first_end asked its (xs ++ ys) ≡ first_end asked (its ++ xs) ys
goes_more asked its xs ys e = first_end-append asked its xs ys ∙ ap (λ (x : Option End). option_or x (first_end asked (its ++ xs) ys)) e

agrees_more : (asked : TransferRequest) (its xs ys : List TransferItem) (run : Result Next TransferFault) → first_end asked its xs ≡ None → Agrees asked (its ++ xs) ys run → Agrees asked its (xs ++ ys) run
agrees_more asked its xs ys (Ok (on p)) e a = rw (← append_assoc its xs ys) a
agrees_more asked its xs ys (Ok (current theirs)) e a = goes_more asked its xs ys e ∙ a
agrees_more asked its xs ys (Err fault) e a = goes_more asked its xs ys e ∙ a

records-answer : (its : List TransferItem) (alone : Bool) (r : PlainRecord) → records (its ++ answer alone r ∷ []) ≡ records its ++ r ∷ []
unfolding records
records-answer its alone r = flat_map-append item_records its (answer alone r ∷ [])

records-head : (its : List TransferItem) (octets : List ℕ) → records (its ++ head octets ∷ []) ≡ records its
unfolding records
records-head its octets = flat_map-append item_records its (head octets ∷ []) ∙ append-nil (flat_map item_records its)

-- one more item that doesn't end the transfer
more_stands : (asked : TransferRequest) (p q : Progress) (its : List TransferItem) (it : TransferItem) → Stands asked p its → q.count ≡ p.count + 1 → end_by asked its it ≡ None
    → q.gathered ≡ blocks (records (its ++ it ∷ [])) → Stands asked q (its ++ it ∷ [])
more_stands asked p q its it stands count none gathered = record {
  count = omega (arith, count, stands.count, length-append its (it ∷ []));
  no_end = first_end-behind asked its (it ∷ []) stands.no_end ∙ first_end-one asked its it ∙ none;
  gathered = gathered;
}

-- how an answer record that ends the transfer so agrees
next_agrees : (goes : GoesByRecords) (asked : TransferRequest) (alone : Bool) (p : Progress) (its : List TransferItem) (r : PlainRecord) (end : Option End) → Stands asked p its → end_by asked its (answer alone r) ≡ end
    → Agrees asked its (answer alone r ∷ []) (next_of (record { count = p.count + 1; gathered = p.gathered }) r end)
next_agrees goes asked alone p its r (Some (Err fault)) stands ends = first_end-one asked its (answer alone r) ∙ ends
next_agrees goes asked alone p its r (Some (Ok theirs)) stands ends = first_end-one asked its (answer alone r) ∙ ends
next_agrees goes asked alone p its r None stands ends =
    let gathered : with_record p.gathered r ≡ blocks (records (its ++ answer alone r ∷ [])) =
    ap (λ (bs : List Block). with_record bs r) stands.gathered ∙ sym (goes (records its) r) ∙ sym (ap blocks (records-answer its alone r)) in
    more_stands asked p (record { count = p.count + 1; gathered = with_record p.gathered r }) its (answer alone r) stands refl ends gathered

answer_by : (goes : GoesByRecords) (asked : TransferRequest) (alone : Bool) (p : Progress) (its : List TransferItem) (r : PlainRecord) (t : Bool) → nat_le asked.most (length its + 1) ≡ t → Stands asked p its
    → Agrees asked its (answer alone r ∷ []) (answer_run asked alone p r)
answer_by goes asked alone p its r true e stands =
    let many : nat_le asked.most (p.count + 1) ≡ true = rw (stands.count) e in
    let ends : first_end asked its (answer alone r ∷ []) ≡ Some (Err (TooManyRecords asked.most)) = first_end-one asked its (answer alone r) ∙ rw e refl in
    rw many ends
answer_by goes asked alone p its r false e stands =
    let few : nat_le asked.most (p.count + 1) ≡ false = rw (stands.count) e in
    let ends : end_by asked its (answer alone r) ≡ answer_end asked alone p.gathered r = rw e (ap (λ (bs : List Block). answer_end asked alone bs r) (sym stands.gathered)) in
    rw few (next_agrees goes asked alone p its r (answer_end asked alone p.gathered r) stands ends)

answers_by : (asked : TransferRequest) (alone : Bool) (p : Progress) (its : List TransferItem) (r : PlainRecord) (rs : List PlainRecord) (run : Result Next TransferFault) → Stands asked p its → Agrees asked its (answer alone r ∷ []) run
    → ((q : Progress) → Stands asked q (its ++ answer alone r ∷ []) → Agrees asked (its ++ answer alone r ∷ []) (map (answer alone) rs) (answers_run asked alone q rs))
    → Agrees asked its (answer alone r ∷ map (answer alone) rs) (run >>= then_more (λ now. answers_run asked alone now rs))
answers_by asked alone p its r rs (Err fault) stands a more = ends_more asked its (answer alone r ∷ []) (map (answer alone) rs) (Err fault) a
answers_by asked alone p its r rs (Ok (current theirs)) stands a more = ends_more asked its (answer alone r ∷ []) (map (answer alone) rs) (Ok theirs) a
answers_by asked alone p its r rs (Ok (on q)) stands a more =
    let none : first_end asked its (answer alone r ∷ []) ≡ None = sym (first_end-behind asked its (answer alone r ∷ []) stands.no_end) ∙ a.no_end in
    agrees_more asked its (answer alone r ∷ []) (map (answer alone) rs) (answers_run asked alone q rs) none (more q a)

answers_agree : (goes : GoesByRecords) (asked : TransferRequest) (alone : Bool) (p : Progress) (its : List TransferItem) (rs : List PlainRecord) → Stands asked p its → Agrees asked its (map (answer alone) rs) (answers_run asked alone p rs)
answers_agree goes asked alone p its [] stands = rw (append-nil its) stands
answers_agree goes asked alone p its (r ∷ rs) stands =
    answers_by asked alone p its r rs (answer_run asked alone p r) stands (answer_by goes asked alone p its r (nat_le asked.most (length its + 1)) refl stands)
    (λ q h. answers_agree goes asked alone q (its ++ answer alone r ∷ []) rs h)

-- the head of a message that can be read
head_by : (goes : GoesByRecords) (asked : TransferRequest) (p : Progress) (its : List TransferItem) (octets : List ℕ) (m : Message) (fault : Option TransferFault) → Stands asked p its → nat_le asked.most (length its + 1) ≡ false
    → message_of octets ≡ Ok m → head_fault asked (length its == 0) m ≡ fault
    → Agrees asked its (head octets ∷ answers m.answer) (unless fault m >>= λ x. answers_run asked (length x.answer == 1) (record { count = p.count + 1; gathered = p.gathered }) x.answer)
head_by goes asked p its octets m (Some fault) stands few read h =
    ends_more asked its (head octets ∷ []) (answers m.answer) (Err fault) (first_end-one asked its (head octets) ∙ rw (few, read, h) refl)
head_by goes asked p its octets m None stands few read h =
    let q : Progress = record { count = p.count + 1; gathered = p.gathered } in
    let alone : Bool = length m.answer == 1 in
    let none : end_by asked its (head octets) ≡ None = rw (few, read, h) refl in
    let behind : Stands asked q (its ++ head octets ∷ []) = more_stands asked p q its (head octets) stands refl none (stands.gathered ∙ sym (ap blocks (records-head its octets))) in
    agrees_more asked its (head octets ∷ []) (answers m.answer) (answers_run asked alone q m.answer) (first_end-one asked its (head octets) ∙ none)
    (answers_agree goes asked alone q (its ++ head octets ∷ []) m.answer behind)

abbrev after_head : TransferRequest → Progress → Bool → Result Message MessageFault → Result Next TransferFault
after_head asked p is_first read = checked_head asked is_first read >>= λ m. answers_run asked (length m.answer == 1) (record { count = p.count + 1; gathered = p.gathered }) m.answer

read_by : (goes : GoesByRecords) (asked : TransferRequest) (p : Progress) (its : List TransferItem) (octets : List ℕ) (read : Result Message MessageFault) → Stands asked p its → nat_le asked.most (length its + 1) ≡ false → message_of octets ≡ read
    → Agrees asked its (head octets ∷ answers (answers_in read)) (after_head asked p (length its == 0) read)
read_by goes asked p its octets (Err fault) stands few read = first_end-one asked its (head octets) ∙ rw (few, read) refl
read_by goes asked p its octets (Ok m) stands few read = head_by goes asked p its octets m (head_fault asked (length its == 0) m) stands few read refl

message_by : (goes : GoesByRecords) (asked : TransferRequest) (p : Progress) (its : List TransferItem) (octets : List ℕ) (t : Bool) → nat_le asked.most (length its + 1) ≡ t → Stands asked p its → Agrees asked its (items_of octets) (message_run asked p octets)
unfolding message_run
message_by goes asked p its octets true e stands =
    let many : nat_le asked.most (p.count + 1) ≡ true = rw (stands.count) e in
    let ends : first_end asked its (head octets ∷ []) ≡ Some (Err (TooManyRecords asked.most)) = first_end-one asked its (head octets) ∙ rw e refl in
    rw many (ends_more asked its (head octets ∷ []) (answers (answers_in (message_of octets))) (Err (TooManyRecords asked.most)) ends)
message_by goes asked p its octets false e stands =
    let few : nat_le asked.most (p.count + 1) ≡ false = rw (stands.count) e in
    let first : (p.count == 0) ≡ (length its == 0) = ap (λ (n : ℕ). n == 0) stands.count in
    rw (few, first) (read_by goes asked p its octets (message_of octets) stands e refl)

pub message_agrees : (goes : GoesByRecords) (asked : TransferRequest) (p : Progress) (its : List TransferItem) (octets : List ℕ) → Stands asked p its → Agrees asked its (items_of octets) (message_run asked p octets)
message_agrees goes asked p its octets stands = message_by goes asked p its octets (nat_le asked.most (length its + 1)) refl stands
