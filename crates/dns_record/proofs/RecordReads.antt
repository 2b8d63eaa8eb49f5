-- What is read as a record, piece by piece.
use Rattle.std.proofs.Common.{◌≡◌, ℕ, ◌+◌, ◌≤◌, ltb, false, List, length, Result, Ok, Err, refl, sym, ap, subst, arith}
use Rattle.std.proofs.lemmas.Bool.{cond_both, ltb-false, le-ltb}
use Rattle.dns_name.specs.Reading.{◌>>=◌, name_at}
use Rattle.dns_name.specs.Reading as reading
use Rattle.dns_record.specs.declared.fault.RecordFault.{RecordFault}
use Rattle.dns_record.specs.declared.fault.RecordFault.TheVariants.{Short}
use Rattle.dns_record.specs.Becomes.{as_owner}
use Rattle.dns_record.specs.Number.{number_at}
use Rattle.dns_record.specs.Reading.{end_at, data_at, record_at}
use Rattle.dns_record.specs.Record.{PlainRecord}
use Rattle.dns_name.proofs.Binding.{bind_ok, ok_is}

-- what follows in the reading of a record
abbrev pub Outcome : Type 0
Outcome = Result (PlainRecord × ℕ) RecordFault

abbrev pub whole : List ℕ → List (List ℕ) × ℕ → ℕ → List ℕ → PlainRecord × ℕ
whole message owner after rdata = (record { owner = owner.0; rtype = number_at 2 message owner.1; class = number_at 2 message (owner.1 + 2); ttl = number_at 4 message (owner.1 + 4); rdata = rdata }, after)

abbrev pub at_data : List ℕ → List (List ℕ) × ℕ → ℕ → List ℕ → Outcome
at_data message owner after rdata = Ok (whole message owner after rdata)

abbrev pub at_end : List ℕ → List (List ℕ) × ℕ → ℕ → ℕ → Outcome
at_end message owner fixed after = data_at (number_at 2 message owner.1) (number_at 2 message (owner.1 + 2)) message fixed after >>= at_data message owner after

abbrev pub at_fixed : List ℕ → List (List ℕ) × ℕ → ℕ → Outcome
at_fixed message owner fixed = end_at message fixed (number_at 2 message (owner.1 + 8)) >>= at_end message owner fixed

abbrev pub at_owner : List ℕ → List (List ℕ) × ℕ → Outcome
at_owner message owner = end_at message owner.1 10 >>= at_fixed message owner

pub owner_read : (read : reading.NameOutcome) (x : List (List ℕ) × ℕ) → as_owner read ≡ Ok x → read ≡ Ok x
owner_read (Ok y) x e = ap (λ (z : List (List ℕ) × ℕ). Ok z) (ok_is {E = RecordFault} y x e)
owner_read (Err fault) x e = absurd cc

pub end_read : (message : List ℕ) (place count end : ℕ) → end_at message place count ≡ Ok end → (place + count ≤ length message) × (place + count ≡ end)
end_read message place count end =
    cond_both (ltb (length message) (place + count)) (Err Short) (Ok (place + count)) (λ (r : Result ℕ RecordFault). r ≡ Ok end → (place + count ≤ length message) × (place + count ≡ end))
    (λ t e. absurd cc)
    (λ t e. (ltb-false (length message) (place + count) t, ok_is {E = RecordFault} (place + count) end e))

-- what is read as a record
pub record ReadsRecord (r : PlainRecord) (message : List ℕ) (at after : ℕ) : Type 0 where
  pub place : ℕ
  pub owner : name_at message at ≡ Ok (r.owner, place)
  pub rtype : number_at 2 message place ≡ r.rtype
  pub class : number_at 2 message (place + 2) ≡ r.class
  pub ttl : number_at 4 message (place + 4) ≡ r.ttl
  pub end : place + 10 + number_at 2 message (place + 8) ≡ after
  pub within : after ≤ length message
  pub rdata : data_at r.rtype r.class message (place + 10) after ≡ Ok r.rdata

reads_same : (x : PlainRecord × ℕ) (r : PlainRecord) (message : List ℕ) (at after : ℕ) → x ≡ (r, after) → ReadsRecord x.0 message at x.1 → ReadsRecord r message at after
reads_same x r message at after e h = subst (λ (y : PlainRecord × ℕ). ReadsRecord y.0 message at y.1) e h

pub record_reads : (r : PlainRecord) (message : List ℕ) (at after : ℕ) → record_at message at ≡ Ok (r, after) → ReadsRecord r message at after
unfolding record_at
record_reads r message at after e =
    let a = bind_ok (as_owner (name_at message at)) (at_owner message) (r, after) e in
    let owner = a.0 in
    let b = bind_ok (end_at message owner.1 10) (at_fixed message owner) (r, after) a.2 in
    let c = bind_ok (end_at message b.0 (number_at 2 message (owner.1 + 8))) (at_end message owner b.0) (r, after) b.2 in
    let d = bind_ok (data_at (number_at 2 message owner.1) (number_at 2 message (owner.1 + 2)) message b.0 c.0) (at_data message owner c.0) (r, after) c.2 in
    let fixed = end_read message owner.1 10 b.0 b.1 in
    let end = end_read message b.0 (number_at 2 message (owner.1 + 8)) c.0 c.1 in
    let same : whole message owner c.0 d.0 ≡ (r, after) = ok_is {E = RecordFault} (whole message owner c.0 d.0) (r, after) d.2 in
    reads_same (whole message owner c.0 d.0) r message at after same (record {
      place = owner.1;
      owner = owner_read (name_at message at) owner a.1;
      rtype = refl;
      class = refl;
      ttl = refl;
      end = omega (arith, fixed.1, end.1);
      within = omega (arith, end.0, end.1);
      rdata = subst (λ (n : ℕ). data_at (number_at 2 message owner.1) (number_at 2 message (owner.1 + 2)) message n c.0 ≡ Ok d.0) (sym fixed.1) d.1;
    })

pub record_read : (r : PlainRecord) (message : List ℕ) (at after : ℕ) → ReadsRecord r message at after → record_at message at ≡ Ok (r, after)
unfolding record_at
record_read r message at after h =
    let place = h.place in
    let fixed_fits : ltb (length message) (place + 10) ≡ false = le-ltb (length message) (place + 10) (omega (arith, h.end, h.within)) in
    let data_fits : ltb (length message) after ≡ false = le-ltb (length message) after h.within in
    rw (h.owner, fixed_fits, h.end, data_fits, h.rtype, h.class, h.ttl, h.rdata) refl
