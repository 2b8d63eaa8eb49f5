-- Records whose names are compressed are read as the records.
use Rattle.std.proofs.Common.{◌≡◌, ℕ, ◌+◌, ◌<◌, ◌^◌, List, [], ◌∷◌, ◌++◌, length, Ok, refl, sym, ap, subst, ◌∙◌, append_assoc, arith, length-append}
use Rattle.std.specs.List.{AllByRecursion}
use Rattle.std.proofs.lemmas.List.{append-nil}
use Rattle.dns_name.specs.Reading.{name_at}
use Rattle.dns_name.specs.Standing.{Stands}
use Rattle.packed_names.specs.Occurrence.{AreOccurrences}
use Rattle.packed_names.specs.Places.{Place, compressed_octets}
use Rattle.packed_names.proofs.ReadLemmas.{compressed_read, compressed_occurs, occurrences_more}
use Rattle.dns_record.specs.Number.{number_at, number_octets}
use Rattle.dns_record.specs.Reading.{data_at, record_at}
use Rattle.dns_record.specs.Record.{PlainRecord, IsRecord}
use Rattle.dns_record.proofs.Numbers.{length-number_octets, number_read}
use Rattle.dns_record.proofs.RecordReads.{record_read}
use Rattle.dns_record.proofs.RecordStanding.{fields_apart}
use Rattle.dns_message.specs.Compressed.{Draft, WrittenPart, compressed_layout, data_by, field_octets, name_part, with_record, with_records}
use Rattle.dns_message.specs.Reading.{records_at}
use Rattle.dns_message.proofs.CompressedData.{ReadsData, data_read, stands_behind}

-- ---- one record

pub length-fields : (r : PlainRecord) (size : ℕ) → length (field_octets r size) ≡ 10
length-fields r size =
    let rtype = number_octets 2 r.rtype in
    let class = number_octets 2 r.class in
    let ttl = number_octets 4 r.ttl in
    let len = number_octets 2 size in
    omega (
      arith,
      length-append ((rtype ++ class) ++ ttl) len,
      length-append (rtype ++ class) ttl,
      length-append rtype class,
      length-number_octets 2 r.rtype,
      length-number_octets 2 r.class,
      length-number_octets 4 r.ttl,
      length-number_octets 2 size,
    )

-- what is read where the parts of a record stand one after another
pieces_read : (r : PlainRecord) (at : ℕ) (front rdata more : List ℕ) → IsRecord r → length rdata < 2 ^ 16
    → (let bytes = ((front ++ field_octets r (length rdata)) ++ rdata) ++ more in
    name_at bytes at ≡ Ok (r.owner, length front) → data_at r.rtype r.class bytes (length front + 10) (length front + 10 + length rdata) ≡ Ok r.rdata
    → record_at bytes at ≡ Ok (r, length front + 10 + length rdata))
pieces_read r at front rdata more is short owner data_is =
    let size = length rdata in
    let fields = field_octets r size in
    let bytes = ((front ++ fields) ++ rdata) ++ more in
    let place = length front in
    let ten : length fields ≡ 10 = length-fields r size in
    let whole : bytes ≡ (front ++ fields) ++ (rdata ++ more) = append_assoc (front ++ fields) rdata more in
    let stand = subst (λ (n : ℕ). Stands fields bytes place (place + n)) ten (subst (λ (l : List ℕ). Stands fields l place (place + length fields)) (sym whole) (stands_behind front fields (rdata ++ more))) in
    let parts = fields_apart r size bytes place stand in
    let len : number_at 2 bytes (place + 8) ≡ size = number_read 2 size bytes (place + 8) (place + 10) short parts.len in
    record_read r bytes at (place + 10 + size) (record {
      place = place;
      owner = owner;
      rtype = number_read 2 r.rtype bytes place (place + 2) is.type_fits parts.rtype;
      class = number_read 2 r.class bytes (place + 2) (place + 4) is.class_fits parts.class;
      ttl = number_read 4 r.ttl bytes (place + 4) (place + 8) is.ttl_fits parts.ttl;
      end = omega (arith, len);
      within = omega (arith, length-append ((front ++ fields) ++ rdata) more, length-append (front ++ fields) rdata, length-append front fields, ten);
      rdata = data_is;
    })

-- what is known of a record that is written behind these octets
pub record ReadsNext (message : List ℕ) (r : PlainRecord) (d : Draft) : Type 0 where
  pub own : List ℕ
  pub behind : d.octets ≡ message ++ own
  pub read : (more : List ℕ) → record_at (d.octets ++ more) (length message) ≡ Ok (r, length d.octets)
  pub occur : AreOccurrences d.octets d.places

-- the owner, the fields and the data behind what is written
abbrev pub record_pieces : List ℕ → List ℕ → PlainRecord → List ℕ → List ℕ
record_pieces message owner r rdata = ((message ++ owner) ++ field_octets r (length rdata)) ++ rdata

pub regrouped : (message owner a b c d rdata : List ℕ) → (((((message ++ owner) ++ a) ++ b) ++ c) ++ d) ++ rdata ≡ ((message ++ owner) ++ (((a ++ b) ++ c) ++ d)) ++ rdata
regrouped message owner a b c d rdata = simp append_assoc

regroup_more : (message owner fields rdata more : List ℕ) → (((message ++ owner) ++ fields) ++ rdata) ++ more ≡ (message ++ owner) ++ ((fields ++ rdata) ++ more)
regroup_more message owner fields rdata more = simp append_assoc

behind_message : (message owner fields rdata : List ℕ) → ((message ++ owner) ++ fields) ++ rdata ≡ message ++ ((owner ++ fields) ++ rdata)
behind_message message owner fields rdata = simp append_assoc

next_read : (message : List ℕ) (places : List Place) (r : PlainRecord) (rdata : WrittenPart) → AreOccurrences message places → IsRecord r
    → ReadsData r.rtype r.class ((message ++ compressed_octets places r.owner) ++ field_octets r (length rdata.octets)) r.rdata rdata
    → ReadsNext message r (record { octets = record_pieces message (compressed_octets places r.owner) r rdata.octets; places = rdata.places })
next_read message places r rdata occur is h =
    let owner = compressed_octets places r.owner in
    let front = message ++ owner in
    let size = length rdata.octets in
    let fields = field_octets r size in
    let octets = record_pieces message owner r rdata.octets in
    let ten : length fields ≡ 10 = length-fields r size in
    let len : length front ≡ length message + length owner = length-append message owner in
    let before : length (front ++ fields) ≡ length front + 10 = omega (arith, length-append front fields) in
    let all : length octets ≡ length front + 10 + size = omega (arith, length-append (front ++ fields) rdata.octets) in
    record {
      own = (owner ++ fields) ++ rdata.octets;
      behind = behind_message message owner fields rdata.octets;
      read = λ more.
          let name : name_at (octets ++ more) (length message) ≡ Ok (r.owner, length front) =
          ap (λ (l : List ℕ). name_at l (length message)) (regroup_more message owner fields rdata.octets more)
          ∙ compressed_read places message ((fields ++ rdata.octets) ++ more) r.owner occur is.is_owner
          ∙ ap (λ (n : ℕ). Ok (r.owner, n)) (sym len)
          in
          let data_is : data_at r.rtype r.class (octets ++ more) (length front + 10) (length front + 10 + size) ≡ Ok r.rdata =
          ap (λ (n : ℕ). data_at r.rtype r.class (octets ++ more) n (n + size)) (sym before) ∙ h.read more
          in
          pieces_read r (length message) front rdata.octets more is (omega (arith, h.no_longer, is.is_data.short)) name data_is ∙ ap (λ (n : ℕ). Ok (r, n)) (sym all);
      occur = h.occur;
    }

pub one_read : (d : Draft) (r : PlainRecord) → AreOccurrences d.octets d.places → IsRecord r → ReadsNext d.octets r (with_record d r)
unfolding with_record
one_read d r occur is =
    let message = d.octets in
    let owner = name_part d.places (length message) r.owner in
    let front = message ++ owner.octets in
    let occur_owner : AreOccurrences front owner.places = compressed_occurs d.places message r.owner occur is.is_owner in
    let at = length message + length owner.octets + 10 in
    let rdata = data_by (compressed_layout r.rtype r.class) owner.places at r.rdata in
    let fields = field_octets r (length rdata.octets) in
    let place : length (front ++ fields) ≡ at = omega (arith, length-append front fields, length-append message owner.octets, length-fields r (length rdata.octets)) in
    let h : ReadsData r.rtype r.class (front ++ fields) r.rdata rdata =
    subst (λ (n : ℕ). ReadsData r.rtype r.class (front ++ fields) r.rdata (data_by (compressed_layout r.rtype r.class) owner.places n r.rdata)) place
    (data_read r.rtype r.class owner.places (front ++ fields) r.rdata (occurrences_more owner.places front fields occur_owner) is.is_data)
    in
    let same : record_pieces message owner.octets r rdata.octets ≡ message ++ owner.octets ++ number_octets 2 r.rtype ++ number_octets 2 r.class ++ number_octets 4 r.ttl ++ number_octets 2 (length rdata.octets) ++ rdata.octets =
    sym (regrouped message owner.octets (number_octets 2 r.rtype) (number_octets 2 r.class) (number_octets 4 r.ttl) (number_octets 2 (length rdata.octets)) rdata.octets)
    in
    subst (λ (l : List ℕ). ReadsNext message r (record { octets = l; places = rdata.places })) same (next_read message d.places r rdata occur is h)

-- ---- records one after another

-- what is known of records that are written behind these octets
pub record ReadsMore (message : List ℕ) (rs : List PlainRecord) (d : Draft) : Type 0 where
  pub own : List ℕ
  pub behind : d.octets ≡ message ++ own
  pub read : (more : List ℕ) → records_at (length rs) (d.octets ++ more) (length message) ≡ Ok (rs, length d.octets)
  pub occur : AreOccurrences d.octets d.places

records_then : (rs : List PlainRecord) (bytes : List ℕ) (at middle after : ℕ) (r : PlainRecord) → record_at bytes at ≡ Ok (r, middle) → records_at (length rs) bytes middle ≡ Ok (rs, after) → records_at (length (r ∷ rs)) bytes at ≡ Ok (r ∷ rs, after)
unfolding records_at
records_then rs bytes at middle after r first others = rw (first, others) refl

none_read : (d : Draft) → AreOccurrences d.octets d.places → ReadsMore d.octets [] d
unfolding records_at
none_read d occur = record { own = []; behind = sym (append-nil d.octets); read = λ more. refl; occur = occur }

more_read : (message : List ℕ) (r : PlainRecord) (rs : List PlainRecord) (d last : Draft) → ReadsNext message r d → ReadsMore d.octets rs last → ReadsMore message (r ∷ rs) last
more_read message r rs d last first others =
    record {
      own = first.own ++ others.own;
      behind = others.behind ∙ ap (λ (l : List ℕ). l ++ others.own) first.behind ∙ append_assoc message first.own others.own;
      read = λ more.
          let bytes = last.octets ++ more in
          let whole : bytes ≡ d.octets ++ (others.own ++ more) = ap (λ (l : List ℕ). l ++ more) others.behind ∙ append_assoc d.octets others.own more in
          let one : record_at bytes (length message) ≡ Ok (r, length d.octets) = ap (λ (l : List ℕ). record_at l (length message)) whole ∙ first.read (others.own ++ more) in
          records_then rs bytes (length message) (length d.octets) (length last.octets) r one (others.read more);
      occur = others.occur;
    }

-- records that are written behind a draft are read, whatever stands behind them
pub records_read : (d : Draft) (rs : List PlainRecord) → AreOccurrences d.octets d.places → AllByRecursion IsRecord rs → ReadsMore d.octets rs (with_records d rs)
unfolding with_records
records_read d [] occur each = none_read d occur
records_read d (r ∷ rs) occur each =
    let first = one_read d r occur each.0 in
    more_read d.octets r rs (with_record d r) (with_records (with_record d r) rs) first (records_read (with_record d r) rs first.occur each.1)

-- records in two parts
pub with_records-append : (d : Draft) (a b : List PlainRecord) → with_records d (a ++ b) ≡ with_records (with_records d a) b
unfolding with_records
with_records-append d [] b = refl
with_records-append d (r ∷ a) b = with_records-append (with_record d r) a b
