-- Reading records one after another, as a loop does.
use Rattle.std.proofs.Common.{◌≡◌, ℕ, suc, ◌-◌, ◌+◌, ◌≤◌, ◌<◌, List, [], ◌∷◌, ◌++◌, Result, Ok, Err, refl, sym, ap, ◌∙◌, append_assoc, arith}
use Rattle.std.proofs.lemmas.List.{append-nil}
use Rattle.dns_name.specs.Reading.{◌>>=◌}
use Rattle.dns_record.specs.declared.fault.RecordError.{RecordError}
use Rattle.dns_record.specs.declared.fault.RecordError.TheVariants as of_record
use Rattle.dns_record.specs.Reading as reading
use Rattle.dns_record.specs.Reading.{record_at}
use Rattle.dns_record.specs.Record.{PlainRecord}
use Rattle.dns_message.specs.Becomes.{BecomesMessageError, as_record}
use Rattle.dns_message.specs.declared.fault.MessageFault.{MessageFault}
use Rattle.dns_message.specs.declared.fault.MessageError.{MessageError}
use Rattle.dns_message.specs.Reading.{Fails, records_at}

abbrev Outcome : Type 0
Outcome = Result (List PlainRecord × ℕ) MessageFault

-- what was read before, and what is still read
abbrev pub with_front : List PlainRecord → Outcome → Outcome
with_front front read = read >>= λ x. Ok (front ++ x.0, x.1)

regroup : (front : List PlainRecord) (x : PlainRecord) (read : Outcome) → with_front front (read >>= λ others. Ok (x ∷ others.0, others.1)) ≡ with_front (front ++ x ∷ []) read
regroup front x (Ok y) = ap (λ (xs : List PlainRecord). Ok (xs, y.1)) (simp append_assoc)
regroup front x (Err f) = refl

with_front-nil : (read : Outcome) → with_front [] read ≡ read
with_front-nil (Ok x) = refl
with_front-nil (Err f) = refl

pub starts : (bytes : List ℕ) (count at : ℕ) → with_front [] (records_at (count - 0) bytes at) ≡ records_at count bytes at
starts bytes count at = with_front-nil (records_at (count - 0) bytes at) ∙ ap (λ (n : ℕ). records_at n bytes at) (omega arith)

-- one record more
pub goes_on : (bytes : List ℕ) (front : List PlainRecord) (count i at : ℕ) (x : PlainRecord) (after : ℕ) (total : Outcome) → i < count → record_at bytes at ≡ Ok (x, after)
    → with_front front (records_at (count - i) bytes at) ≡ total → with_front (front ++ x ∷ []) (records_at (count - (i + 1)) bytes after) ≡ total
unfolding records_at
goes_on bytes front count i at x after total lt h so_far =
    let k : count - i ≡ suc (count - (i + 1)) = omega arith in
    let one : with_front front (records_at (count - i) bytes at) ≡ with_front (front ++ x ∷ []) (records_at (count - (i + 1)) bytes after) = rw (k, h) (regroup front x (records_at (count - (i + 1)) bytes after)) in
    sym one ∙ so_far

-- a record that can't be read
pub stops : (e : RecordError) (e' : MessageError) (bytes : List ℕ) (front : List PlainRecord) (count i at : ℕ) (total : Outcome) → i < count → BecomesMessageError e e' → reading.Fails e (record_at bytes at)
    → with_front front (records_at (count - i) bytes at) ≡ total → Fails e' total
unfolding records_at
stops of_record.OutOfMemory e' bytes front count i at total lt b h so_far = rw b tt
stops (of_record.Fault f) e' bytes front count i at total lt b h so_far =
    let k : count - i ≡ suc (count - (i + 1)) = omega arith in
    let one : with_front front (records_at (count - i) bytes at) ≡ as_record (Err f) >>= λ (x : PlainRecord × ℕ). total = rw (k, h) refl in
    rw b (sym so_far ∙ one)

-- no record is left
pub is_done : (bytes : List ℕ) (front : List PlainRecord) (count i at : ℕ) (total : Outcome) → count ≤ i → with_front front (records_at (count - i) bytes at) ≡ total → total ≡ Ok (front, at)
unfolding records_at
is_done bytes front count i at total le so_far =
    let k : count - i ≡ 0 = omega arith in
    let one : with_front front (records_at (count - i) bytes at) ≡ Ok (front, at) = rw k (ap (λ (xs : List PlainRecord). Ok (xs, at)) (append-nil front)) in
    sym so_far ∙ one
