-- Records where they stand in a message, written in full.
use Rattle.std.proofs.Common.{◌≡◌, ℕ, ◌+◌, ◌<◌, ◌≤◌, ◌^◌, List, ◌++◌, length, Ok, refl, sym, ap, subst, append_assoc, arith, length-append}
use Rattle.dns_name.specs.Labels.{name_octets}
use Rattle.dns_name.specs.Standing.{Stands}
use Rattle.dns_name.proofs.Standing.{name_written, name_is, stands_both}
use Rattle.dns_record.specs.Number.{number_at, number_octets, AreOctets}
use Rattle.dns_record.specs.Reading.{record_at}
use Rattle.dns_record.specs.Record.{PlainRecord, IsRecord, record_octets}
use Rattle.dns_record.proofs.DataStanding.{data_written, data_is}
use Rattle.dns_record.proofs.Numbers.{length-number_octets, number_read, u16_stands, u32_stands, number_fits}
use Rattle.dns_record.proofs.PartStanding.{stands_within, stands_parts}
use Rattle.dns_record.proofs.RecordReads.{ReadsRecord, record_reads, record_read}

-- the ten octets behind the owner: the type, the class, the time to live and the size of the data
pub record Fields (r : PlainRecord) (size : ℕ) (message : List ℕ) (place : ℕ) : Type 0 where
  pub rtype : Stands (number_octets 2 r.rtype) message place (place + 2)
  pub class : Stands (number_octets 2 r.class) message (place + 2) (place + 4)
  pub ttl : Stands (number_octets 4 r.ttl) message (place + 4) (place + 8)
  pub len : Stands (number_octets 2 size) message (place + 8) (place + 10)

abbrev pub field_octets : PlainRecord → ℕ → List ℕ
field_octets r size = number_octets 2 r.rtype ++ number_octets 2 r.class ++ number_octets 4 r.ttl ++ number_octets 2 size

regrouped : (a b c d : List ℕ) → ((a ++ b) ++ c) ++ d ≡ a ++ (b ++ (c ++ d))
regrouped a b c d = simp append_assoc

fields_grouped : (r : PlainRecord) (size : ℕ) → field_octets r size ≡ number_octets 2 r.rtype ++ (number_octets 2 r.class ++ (number_octets 4 r.ttl ++ number_octets 2 size))
fields_grouped r size = regrouped (number_octets 2 r.rtype) (number_octets 2 r.class) (number_octets 4 r.ttl) (number_octets 2 size)

length-fields : (r : PlainRecord) (size : ℕ) → length (field_octets r size) ≡ 10
length-fields r size =
    let rtype = number_octets 2 r.rtype in
    let class = number_octets 2 r.class in
    let ttl = number_octets 4 r.ttl in
    let len = number_octets 2 size in
    omega (
      arith,
      length-append ((rtype ++ class) ++ ttl) len,
      length-append (rtype ++ class) ttl,
      length-append rtype class,
      length-number_octets 2 r.rtype,
      length-number_octets 2 r.class,
      length-number_octets 4 r.ttl,
      length-number_octets 2 size,
    )

pub fields_apart : (r : PlainRecord) (size : ℕ) (message : List ℕ) (place : ℕ) → Stands (field_octets r size) message place (place + 10) → Fields r size message place
fields_apart r size message place h =
    let rtype = number_octets 2 r.rtype in
    let class = number_octets 2 r.class in
    let ttl = number_octets 4 r.ttl in
    let len = number_octets 2 size in
    let whole : Stands (rtype ++ (class ++ (ttl ++ len))) message place (place + 10) = subst (λ (bytes : List ℕ). Stands bytes message place (place + 10)) (fields_grouped r size) h in
    let a = stands_parts rtype (class ++ (ttl ++ len)) message place (place + 2) (place + 10) (omega (arith, length-number_octets 2 r.rtype)) whole in
    let b = stands_parts class (ttl ++ len) message (place + 2) (place + 4) (place + 10) (omega (arith, length-number_octets 2 r.class)) a.1 in
    let c = stands_parts ttl len message (place + 4) (place + 8) (place + 10) (omega (arith, length-number_octets 4 r.ttl)) b.1 in
    record { rtype = a.0; class = b.0; ttl = c.0; len = c.1 }

pub fields_together : (r : PlainRecord) (size : ℕ) (message : List ℕ) (place : ℕ) → Fields r size message place → Stands (field_octets r size) message place (place + 10)
fields_together r size message place h =
    let rtype = number_octets 2 r.rtype in
    let class = number_octets 2 r.class in
    let ttl = number_octets 4 r.ttl in
    let len = number_octets 2 size in
    let c = stands_both ttl len message (place + 4) (place + 8) (place + 10) h.ttl h.len in
    let b = stands_both class (ttl ++ len) message (place + 2) (place + 4) (place + 10) h.class c in
    let a = stands_both rtype (class ++ (ttl ++ len)) message place (place + 2) (place + 10) h.rtype b in
    subst (λ (bytes : List ℕ). Stands bytes message place (place + 10)) (sym (fields_grouped r size)) a

-- what is read behind the owner stands there
pub fields_stand : (r : PlainRecord) (message : List ℕ) (at after : ℕ) → AreOctets message → (h : ReadsRecord r message at after) → Fields r (number_at 2 message (h.place + 8)) message h.place
fields_stand r message at after octets h =
    let place = h.place in
    let at_number : (n k k' : ℕ) → number_at 2 message k ≡ n → k' ≡ k + 2 → k + 2 ≤ length message → Stands (number_octets 2 n) message k k' =
    λ n k k' s t l. rw (← s, t) (u16_stands message k octets l) in
    record {
      rtype = at_number r.rtype place (place + 2) h.rtype refl (omega (arith, h.end, h.within));
      class = at_number r.class (place + 2) (place + 4) h.class (omega arith) (omega (arith, h.end, h.within));
      ttl = rw (← h.ttl) (subst (λ (k : ℕ). Stands (number_octets 4 (number_at 4 message (place + 4))) message (place + 4) k) (omega arith) (u32_stands message (place + 4) octets (omega (arith, h.end, h.within))));
      len = at_number (number_at 2 message (place + 8)) (place + 8) (place + 10) refl (omega arith) (omega (arith, h.end, h.within));
    }

record_parts : (r : PlainRecord) → record_octets r ≡ name_octets r.owner ++ (field_octets r (length r.rdata) ++ r.rdata)
unfolding record_octets
record_parts r = simp append_assoc

pub record_written : (r : PlainRecord) (message : List ℕ) (at after : ℕ) → IsRecord r → Stands (record_octets r) message at after → record_at message at ≡ Ok (r, after)
record_written r message at after h s =
    let owner = name_octets r.owner in
    let size = length r.rdata in
    let fields = field_octets r size in
    let place = at + length owner in
    let long : 0 < length (record_octets r) = omega (arith, ap length (record_parts r), length-append owner (fields ++ r.rdata), length-append fields r.rdata, length-fields r size) in
    let within : after ≤ length message = stands_within (record_octets r) message at after long s in
    let both = stands_parts owner (fields ++ r.rdata) message at place after refl (subst (λ (bytes : List ℕ). Stands bytes message at after) (record_parts r) s) in
    let behind = stands_parts fields r.rdata message place (place + 10) after (omega (arith, length-fields r size)) both.1 in
    let parts = fields_apart r size message place behind.0 in
    let len : number_at 2 message (place + 8) ≡ size = number_read 2 size message (place + 8) (place + 10) h.is_data.short parts.len in
    record_read r message at after (record {
      place = place;
      owner = name_written r.owner message at place h.is_owner both.0;
      rtype = number_read 2 r.rtype message place (place + 2) h.type_fits parts.rtype;
      class = number_read 2 r.class message (place + 2) (place + 4) h.class_fits parts.class;
      ttl = number_read 4 r.ttl message (place + 4) (place + 8) h.ttl_fits parts.ttl;
      end = omega (arith, len, behind.1.ends);
      within = within;
      rdata = data_written r.rtype r.class r.rdata message (place + 10) after h.is_data within behind.1;
    })

pub record_is : (r : PlainRecord) (message : List ℕ) (at after : ℕ) → AreOctets message → record_at message at ≡ Ok (r, after) → IsRecord r
record_is r message at after octets e =
    let h = record_reads r message at after e in
    let size : number_at 2 message (h.place + 8) < 2 ^ 16 = number_fits 2 message (h.place + 8) octets in
    record {
      is_owner = name_is r.owner message at h.place h.owner;
      type_fits = subst (λ (n : ℕ). n < 2 ^ 16) h.rtype (number_fits 2 message h.place octets);
      class_fits = subst (λ (n : ℕ). n < 2 ^ 16) h.class (number_fits 2 message (h.place + 2) octets);
      ttl_fits = subst (λ (n : ℕ). n < 2 ^ 32) h.ttl (number_fits 4 message (h.place + 4) octets);
      is_data = data_is r.rtype r.class r.rdata message (h.place + 10) after (omega (arith, h.end, size)) h.rdata;
    }
