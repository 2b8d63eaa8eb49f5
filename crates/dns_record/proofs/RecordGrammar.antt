-- Records are read exactly where they stand by the rules of the grammar.
use Rattle.std.proofs.Common.{◌≡◌, ℕ, ◌+◌, ◌<◌, ◌^◌, List, Ok, sym, subst, arith}
use Rattle.dns_name.specs.Grammar.{NameAt}
use Rattle.dns_name.specs.Reading.{NameOutcome}
use Rattle.dns_name.proofs.GrammarLemmas.{name_stands, name_only}
use Rattle.dns_record.specs.Grammar.{RecordAt}
use Rattle.dns_record.specs.Number.{number_at, AreOctets}
use Rattle.dns_record.specs.Reading.{record_at}
use Rattle.dns_record.specs.Record.{PlainRecord}
use Rattle.dns_record.proofs.DataStanding.{data_stands, data_only}
use Rattle.dns_record.proofs.Numbers.{number_read, number_fits}
use Rattle.dns_record.proofs.RecordReads.{record_reads, record_read}
use Rattle.dns_record.proofs.RecordStanding.{fields_apart, fields_together, fields_stand}

-- what is read as a record stands there by the rules
pub record_stands : (r : PlainRecord) (message : List ℕ) (at after : ℕ) → AreOctets message → record_at message at ≡ Ok (r, after) → RecordAt message at r after
record_stands r message at after octets e =
    let h = record_reads r message at after e in
    let place = h.place in
    let size = number_at 2 message (place + 8) in
    record {
      owner_end = place;
      size = size;
      owner = subst (λ (o : NameOutcome). NameAt message at o) h.owner (name_stands message at);
      fields = fields_together r size message place (fields_stand r message at after octets h);
      type_fits = subst (λ (n : ℕ). n < 2 ^ 16) h.rtype (number_fits 2 message place octets);
      class_fits = subst (λ (n : ℕ). n < 2 ^ 16) h.class (number_fits 2 message (place + 2) octets);
      ttl_fits = subst (λ (n : ℕ). n < 2 ^ 32) h.ttl (number_fits 4 message (place + 4) octets);
      size_fits = number_fits 2 message (place + 8) octets;
      ends = sym h.end;
      inside = h.within;
      rdata = data_stands r.rtype r.class r.rdata message (place + 10) after (omega (arith, h.end)) h.within h.rdata;
    }

-- a record that stands there by the rules is read
pub record_only : (r : PlainRecord) (message : List ℕ) (at after : ℕ) → RecordAt message at r after → record_at message at ≡ Ok (r, after)
record_only r message at after h =
    let place = h.owner_end in
    let parts = fields_apart r h.size message place h.fields in
    let len : number_at 2 message (place + 8) ≡ h.size = number_read 2 h.size message (place + 8) (place + 10) h.size_fits parts.len in
    record_read r message at after (record {
      place = place;
      owner = name_only message at (Ok (r.owner, place)) h.owner;
      rtype = number_read 2 r.rtype message place (place + 2) h.type_fits parts.rtype;
      class = number_read 2 r.class message (place + 2) (place + 4) h.class_fits parts.class;
      ttl = number_read 4 r.ttl message (place + 4) (place + 8) h.ttl_fits parts.ttl;
      end = omega (arith, len, h.ends);
      within = h.inside;
      rdata = data_only r.rtype r.class r.rdata message (place + 10) after h.rdata;
    })
