-- Records one after another: as they are read, by the rules, and as they are spelled.
use Rattle.std.proofs.Common.{◌≡◌, ℕ, zero, suc, ◌+◌, ◌≤◌, List, [], ◌∷◌, length, Result, Ok, Err, refl, sym, ap, subst, arith}
use Rattle.std.specs.List.{flat_map, AllByRecursion}
use Rattle.dns_name.specs.Reading.{◌>>=◌}
use Rattle.dns_name.specs.Standing.{Stands}
use Rattle.dns_record.specs.Number.{AreOctets}
use Rattle.dns_record.specs.Reading.{record_at}
use Rattle.dns_record.specs.declared.fault.RecordFault.{RecordFault}
use Rattle.dns_record.specs.Record.{PlainRecord, IsRecord, record_octets}
use Rattle.dns_name.proofs.Binding.{bind_ok, ok_is}
use Rattle.dns_record.proofs.PartStanding.{stands_parts}
use Rattle.dns_record.proofs.RecordGrammar.{record_stands, record_only}
use Rattle.dns_record.proofs.RecordStanding.{record_written}
use Rattle.dns_message.specs.Becomes.{as_record}
use Rattle.dns_message.specs.declared.fault.MessageFault.{MessageFault}
use Rattle.dns_message.specs.Grammar.{RecordsAt}
use Rattle.dns_message.specs.Reading.{records_at}
use Rattle.dns_message.specs.Spelling.{records_octets}

-- what is written as records is read as those records
pub records_written : (records : List PlainRecord) (bytes : List ℕ) (at after : ℕ) → AllByRecursion IsRecord records → Stands (records_octets records) bytes at after → records_at (length records) bytes at ≡ Ok (records, after)
unfolding records_octets records_at
records_written [] bytes at after each s = ap (λ (n : ℕ). Ok ([], n)) (omega (arith, s.ends))
records_written (r ∷ rs) bytes at after each s =
    let middle = at + length (record_octets r) in
    let both = stands_parts (record_octets r) (flat_map record_octets rs) bytes at middle after refl s in
    let first : record_at bytes at ≡ Ok (r, middle) = record_written r bytes at middle each.0 both.0 in
    let others : records_at (length rs) bytes middle ≡ Ok (rs, after) = records_written rs bytes middle after each.1 both.1 in
    rw (first, others) refl

pub record_from : (read : Result (PlainRecord × ℕ) RecordFault) (x : PlainRecord × ℕ) → as_record read ≡ Ok x → read ≡ Ok x
record_from (Ok y) x e = ap (λ (z : PlainRecord × ℕ). Ok z) (ok_is {E = MessageFault} y x e)
record_from (Err fault) x e = absurd cc

-- so many records stand between two places
pub record ReadsRecords (count : ℕ) (bytes : List ℕ) (place : ℕ) (x : List PlainRecord × ℕ) : Type 0 where
  pub stand : RecordsAt x.0 bytes place x.1
  pub counted : length x.0 ≡ count

-- what is read as records stands there by the rules
pub records_stand : (count : ℕ) (bytes : List ℕ) (place : ℕ) (x : List PlainRecord × ℕ) → AreOctets bytes → records_at count bytes place ≡ Ok x → ReadsRecords count bytes place x
unfolding records_at
records_stand zero bytes place x octets e = subst (ReadsRecords 0 bytes place) (ok_is {E = MessageFault} ([], place) x e) (record { stand = refl; counted = refl })
records_stand (suc count) bytes place x octets e =
    let p = bind_ok (as_record (record_at bytes place)) (λ first. records_at count bytes first.1 >>= λ others. Ok (first.0 ∷ others.0, others.1)) x e in
    let first = p.0 in
    let q = bind_ok (records_at count bytes first.1) (λ others. Ok (first.0 ∷ others.0, others.1)) x p.2 in
    let one = record_stands first.0 bytes place first.1 octets (record_from (record_at bytes place) first p.1) in
    let others = records_stand count bytes first.1 q.0 octets q.1 in
    subst (ReadsRecords (suc count) bytes place) (ok_is {E = MessageFault} (first.0 ∷ q.0.0, q.0.1) x q.2) (record { stand = (first.1, one, others.stand); counted = ap suc others.counted })

-- what stands there by the rules is read
pub records_only : (records : List PlainRecord) (bytes : List ℕ) (place after : ℕ) → RecordsAt records bytes place after → records_at (length records) bytes place ≡ Ok (records, after)
unfolding records_at
records_only [] bytes place after h = ap (λ (n : ℕ). Ok ([], n)) (sym h)
records_only (r ∷ rs) bytes place after h =
    let first : record_at bytes place ≡ Ok (r, h.0) = record_only r bytes place h.0 h.1 in
    let others : records_at (length rs) bytes h.0 ≡ Ok (rs, after) = records_only rs bytes h.0 after h.2 in
    rw (first, others) refl

-- records end within the message
pub records_inside : (records : List PlainRecord) (bytes : List ℕ) (place after : ℕ) → place ≤ length bytes → RecordsAt records bytes place after → after ≤ length bytes
records_inside [] bytes place after within h = omega (arith, h)
records_inside (r ∷ rs) bytes place after within h = records_inside rs bytes h.0 after h.1.inside h.2
