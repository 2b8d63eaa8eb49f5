-- Records that are read where they lie.
use Rattle.std.proofs.Common.{◌≡◌, ℕ, suc, ◌+◌, ◌-◌, List, [], ◌∷◌, ◌++◌, length, map, take, drop, refl, sym, ap, ◌∙◌, subst, append_assoc, arith}
use Rattle.std.specs.List.{AllByRecursion, flat_map}
use Rattle.std.proofs.lemmas.List.{drop_at, length-append, take_at}
use Rattle.dns_name.specs.Labels.{name_octets}
use Rattle.dns_name.specs.Standing.{Stands}
use Rattle.dns_name.specs.Wire.{labels_in}
use Rattle.dns_name.proofs.WireLemmas.{labels_in-octets}
use Rattle.dns_record.specs.Number.{number_at, number_octets}
use Rattle.dns_record.specs.Record.{IsRecord, PlainRecord}
use Rattle.dns_record.proofs.Numbers.{number_read}
use Rattle.dns_message.specs.Written.{AreWritten, BeginsRecord, back_octets, first_in, front_octets, lasting_octets, span_of, records_in}
use Rattle.dns_message.specs.declared.record_refs.RecordSpan.{RecordSpan}
use Rattle.dns_message.proofs.Lasting.{back_length, front_length, two_octets}

-- ---- one record

-- what stands between two pieces
piece : (before x after octets : List ℕ) → octets ≡ before ++ (x ++ after) → (at n : ℕ) → length before ≡ at → length x ≡ n → take n (drop at octets) ≡ x
piece before x after octets e at n ea en =
    ap (λ (l : List ℕ). take n (drop at l)) e ∙ ap (take n) (drop_at before (x ++ after) at ea) ∙ take_at x after n en

stands : (before x after octets : List ℕ) → octets ≡ before ++ (x ++ after) → (at : ℕ) → length before ≡ at → Stands x octets at (at + length x)
stands before x after octets e at ea = record { begins = piece before x after octets e at (length x) ea refl; ends = refl }

module _ (r : PlainRecord) (rest octets : List ℕ) (e : octets ≡ lasting_octets r ++ rest) where
  at_name : octets ≡ [] ++ (name_octets r.owner ++ (number_octets 2 r.rtype ++ (number_octets 2 r.class ++ (number_octets 2 (length r.rdata) ++ (r.rdata ++ rest)))))
  unfolding front_octets back_octets
  at_name = e ∙ (simp append_assoc)

  at_type : octets ≡ name_octets r.owner ++ (number_octets 2 r.rtype ++ (number_octets 2 r.class ++ (number_octets 2 (length r.rdata) ++ (r.rdata ++ rest))))
  unfolding front_octets back_octets
  at_type = e ∙ (simp append_assoc)

  at_class : octets ≡ (name_octets r.owner ++ number_octets 2 r.rtype) ++ (number_octets 2 r.class ++ (number_octets 2 (length r.rdata) ++ (r.rdata ++ rest)))
  unfolding front_octets back_octets
  at_class = e ∙ (simp append_assoc)

  at_data : octets ≡ (((name_octets r.owner ++ number_octets 2 r.rtype) ++ number_octets 2 r.class) ++ number_octets 2 (length r.rdata)) ++ (r.rdata ++ rest)
  unfolding front_octets back_octets
  at_data = e ∙ (simp append_assoc)

  size_of_two : length (name_octets r.owner ++ number_octets 2 r.rtype) ≡ length (name_octets r.owner) + 2
  size_of_two = length-append (name_octets r.owner) (number_octets 2 r.rtype) ∙ ap (λ (n : ℕ). length (name_octets r.owner) + n) (two_octets r.rtype)

  size_of_three : length ((name_octets r.owner ++ number_octets 2 r.rtype) ++ number_octets 2 r.class) ≡ length (name_octets r.owner) + 4
  size_of_three =
      let more = length-append (name_octets r.owner ++ number_octets 2 r.rtype) (number_octets 2 r.class) in
      omega (arith, more, size_of_two, two_octets r.class)

  size_of_four : length (((name_octets r.owner ++ number_octets 2 r.rtype) ++ number_octets 2 r.class) ++ number_octets 2 (length r.rdata)) ≡ length (name_octets r.owner) + 6
  size_of_four =
      let more = length-append ((name_octets r.owner ++ number_octets 2 r.rtype) ++ number_octets 2 r.class) (number_octets 2 (length r.rdata)) in
      omega (arith, more, size_of_three, two_octets (length r.rdata))

  pub name_is : take ((span_of r).front - 4) octets ≡ name_octets r.owner
  name_is = piece [] (name_octets r.owner) _ octets at_name 0 ((span_of r).front - 4) refl (omega (arith, front_length r))

  type_is : IsRecord r → number_at 2 octets ((span_of r).front - 4) ≡ r.rtype
  type_is h = number_read 2 r.rtype octets ((span_of r).front - 4) _ h.type_fits (stands (name_octets r.owner) (number_octets 2 r.rtype) _ octets at_type ((span_of r).front - 4) (omega (arith, front_length r)))

  class_is : IsRecord r → number_at 2 octets ((span_of r).front - 2) ≡ r.class
  class_is h = number_read 2 r.class octets ((span_of r).front - 2) _ h.class_fits (stands (name_octets r.owner ++ number_octets 2 r.rtype) (number_octets 2 r.class) _ octets at_class ((span_of r).front - 2) (omega (arith, front_length r, size_of_two)))

  data_is : take ((span_of r).back - 2) (drop ((span_of r).front + 2) octets) ≡ r.rdata
  data_is = piece _ r.rdata rest octets at_data ((span_of r).front + 2) ((span_of r).back - 2) (omega (arith, front_length r, size_of_four)) (omega (arith, back_length r))

  pub first_is : IsRecord r → first_in octets (span_of r) ≡ r
  first_is h =
      let owner : labels_in (take ((span_of r).front - 4) octets) ≡ r.owner = labels_in-octets (take ((span_of r).front - 4) octets) r.owner name_is h.is_owner in
      rw (owner, type_is h, class_is h, data_is) refl

  pub behind : drop ((span_of r).front + (span_of r).back) octets ≡ rest
  behind = ap (drop ((span_of r).front + (span_of r).back)) e ∙ drop_at (lasting_octets r) rest _ (length-append (front_octets r) (back_octets r))

-- ---- all records

records_are : (records : List PlainRecord) (octets : List ℕ) → octets ≡ flat_map lasting_octets records → AllByRecursion IsRecord records → records_in octets (map span_of records) ≡ records
unfolding records_in
records_are [] octets e h = refl
records_are (r ∷ records) octets e h =
    ap (λ (x : PlainRecord). x ∷ records_in (drop ((span_of r).front + (span_of r).back) octets) (map span_of records)) (first_is r (flat_map lasting_octets records) octets e h.0)
    ∙ ap (λ (l : List PlainRecord). r ∷ l) (records_are records _ (behind r (flat_map lasting_octets records) octets e) h.1)

-- what is written is what is read
pub written_are : (octets : List ℕ) (spans : List RecordSpan) (records : List PlainRecord) → AreWritten octets spans records → records_in octets spans ≡ records
written_are octets spans records is = ap (records_in octets) is.spans_are ∙ records_are records octets is.octets_are is.are_records

pub written_so : (octets : List ℕ) (spans : List RecordSpan) (records : List PlainRecord) → AllByRecursion IsRecord records → octets ≡ flat_map lasting_octets records → spans ≡ map span_of records
    → AreWritten octets spans (records_in octets spans)
written_so octets spans records all eo ep =
    let is : AreWritten octets spans records = record { are_records = all; octets_are = eo; spans_are = ep } in
    subst (AreWritten octets spans) (sym (written_are octets spans records is)) is

pub count_is : (octets : List ℕ) (spans : List RecordSpan) → length spans ≡ length (records_in octets spans)
unfolding records_in
count_is octets [] = refl
count_is octets (span ∷ spans) = ap suc (count_is (drop (span.front + span.back) octets) spans)

pub none_in : (octets : List ℕ) → records_in octets [] ≡ []
unfolding records_in
none_in octets = refl

-- ---- the first of them

-- the first record is read where it lies, and the others are left
pub record IsFirst (octets : List ℕ) (span : RecordSpan) (spans : List RecordSpan) : Type 0 where
  pub begins : BeginsRecord octets span
  pub others : AreWritten (drop (span.front + span.back) octets) spans (records_in (drop (span.front + span.back) octets) spans)

abbrev tail_of : {A : Type 0} → List A → List A
tail_of [] = []
tail_of (x ∷ xs) = xs

abbrev head_or : RecordSpan → List RecordSpan → RecordSpan
head_or p [] = p
head_or p (x ∷ xs) = x

first_by : (octets : List ℕ) (span : RecordSpan) (spans : List RecordSpan) → (let r = first_in octets span in let rest = records_in (drop (span.front + span.back) octets) spans in AreWritten octets (span ∷ spans) (r ∷ rest))
    → IsFirst octets span spans
first_by octets span spans is =
    let r = first_in octets span in
    let next = drop (span.front + span.back) octets in
    let rest = records_in next spans in
    let here : span ≡ span_of r = ap (head_or span) is.spans_are in
    let others : spans ≡ map span_of rest = ap tail_of is.spans_are in
    let front : span.front ≡ length (front_octets r) = ap (λ (p : RecordSpan). p.front) here in
    let back : span.back ≡ length (back_octets r) = ap (λ (p : RecordSpan). p.back) here in
    let name : take (span.front - 4) octets ≡ name_octets r.owner = ap (λ (n : ℕ). take (n - 4) octets) front ∙ name_is r (flat_map lasting_octets rest) octets is.octets_are in
    let left : next ≡ flat_map lasting_octets rest = ap (λ (n : ℕ). drop (n + span.back) octets) front ∙ ap (λ (n : ℕ). drop (length (front_octets r) + n) octets) back ∙ behind r (flat_map lasting_octets rest) octets is.octets_are in
    let long : length octets ≡ length (lasting_octets r) + length (flat_map lasting_octets rest) = ap (λ (l : List ℕ). length l) is.octets_are ∙ length-append (lasting_octets r) (flat_map lasting_octets rest) in
    let both : length (lasting_octets r) ≡ length (front_octets r) + length (back_octets r) = length-append (front_octets r) (back_octets r) in
    record {
      begins = record {
        front = omega (arith, front, front_length r);
        back = omega (arith, back, back_length r);
        room = omega (arith, front, back, long, both);
        is_owner = record { name = is.are_records.0.is_owner; whole = name };
        is_data = is.are_records.0.is_data;
      };
      others = record { are_records = is.are_records.1; octets_are = left; spans_are = others };
    }

pub is_first : (octets : List ℕ) (span : RecordSpan) (spans : List RecordSpan) → AreWritten octets (span ∷ spans) (records_in octets (span ∷ spans)) → IsFirst octets span spans
unfolding records_in
is_first octets span spans is = first_by octets span spans is

pub first_left : (octets : List ℕ) (span : RecordSpan) (spans : List RecordSpan) → records_in octets (span ∷ spans) ≡ first_in octets span ∷ records_in (drop (span.front + span.back) octets) spans
unfolding records_in
first_left octets span spans = refl

pub data_at : (front back : ℕ) (octets : List ℕ) → take (front + back - (front + 2)) octets ≡ take (back - 2) octets
data_at front back octets =
    let same : front + back - (front + 2) ≡ back - 2 = omega arith in
    ap (λ (n : ℕ). take n octets) same

-- the same where the spans are these
pub first_at : (octets : List ℕ) (all : List RecordSpan) (span : RecordSpan) (spans : List RecordSpan) → all ≡ span ∷ spans → AreWritten octets all (records_in octets all) → IsFirst octets span spans
first_at octets all span spans e is = is_first octets span spans (subst (λ (ps : List RecordSpan). AreWritten octets ps (records_in octets ps)) e is)

-- one record is given, and the others are left
pub one_less : (octets : List ℕ) (all : List RecordSpan) (span : RecordSpan) (spans : List RecordSpan) (r : PlainRecord) (rest : List ℕ) → all ≡ span ∷ spans → r ≡ first_in octets span
    → rest ≡ drop (span.front + span.back) octets → records_in octets all ≡ r ∷ records_in rest spans
one_less octets all span spans r rest e er el =
    ap (records_in octets) e ∙ first_left octets span spans
    ∙ ap (λ (x : PlainRecord). x ∷ records_in (drop (span.front + span.back) octets) spans) (sym er)
    ∙ ap (λ (l : List ℕ). r ∷ records_in l spans) (sym el)
