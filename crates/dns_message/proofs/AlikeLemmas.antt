-- Records of one owner whose data have no names that are compressed.
use Rattle.std.proofs.Common.{◌≡◌, ℕ, ◌+◌, ◌-◌, ◌<◌, ◌≤◌, ltb, Bool, true, false, List, [], ◌∷◌, ◌++◌, length, map, take, drop, Option, Some, None, refl, sym, ap, ◌∙◌, subst, append_assoc, lt-ltb, le-ltb}
use Rattle.std.specs.Prelude.{IfSome}
use Rattle.std.specs.Str.{bytes_eq}
use Rattle.std.proofs.lemmas.Slice.Eq.{bytes_eq-Decides}
use Rattle.std.specs.List.{AllByRecursion}
use Rattle.std.proofs.lemmas.List.{append-nil}
use Rattle.dns_name.specs.Labels.{IsName, Name, name_octets}
use Rattle.dns_name.specs.Wire.{labels_in}
use Rattle.dns_name.proofs.WireLemmas.{labels_in-octets}
use Rattle.packed_names.specs.Places.{Place, compressed_octets, new_places, pointer_octets}
use Rattle.dns_record.specs.declared.part.Part.{Part}
use Rattle.dns_record.specs.Number.{number_octets}
use Rattle.dns_record.specs.Record.{PlainRecord}
use Rattle.dns_message.specs.declared.record_refs.RecordSpan.{RecordSpan}
use Rattle.dns_message.specs.Aged.{aged}
use Rattle.dns_message.specs.Alike.{AreAlike, IsAlike, IsPointed}
use Rattle.dns_message.specs.Compressed.{Draft, WrittenPart, compressed_layout, data_by, field_octets, plain_part, with_record}
use Rattle.dns_message.specs.Compressed as form
use Rattle.dns_message.specs.Progress.{Progress, Writing, beyond, draft, kept_within, progress_after, progress_of, within, writing_after}
use Rattle.dns_message.specs.Written.{first_in, records_in}
use Rattle.dns_message.proofs.Drafts.{record_is}
use Rattle.dns_message.proofs.InPlace.{one_less}
use Rattle.dns_message.proofs.ProgressSteps.{beyond_stays, writing}

-- ---- records that are alike

-- the same octets are the same name
pub same_name_by : (a b : List ℕ) (first second : Name) → a ≡ name_octets first → IsName first → b ≡ name_octets second → IsName second → bytes_eq a b ≡ true → first ≡ second
same_name_by a b first second ea na eb nb same =
    let e : a ≡ b = (bytes_eq-Decides a b).0 same in
    sym (labels_in-octets a first ea na) ∙ labels_in-octets a second (e ∙ eb) nb

plain_type : (rtype class : ℕ) → form.has_compressed_names rtype ≡ false → compressed_layout rtype class ≡ None
plain_type rtype class e = rw e refl

pub alike_record : (r : PlainRecord) (owner : Name) → r.owner ≡ owner → form.has_compressed_names r.rtype ≡ false → IsAlike owner r
alike_record r owner same e = record { is_owner = same; is_plain = plain_type r.rtype r.class e }

-- what is left of records that are alike
alike_left : (all : List PlainRecord) (r : PlainRecord) (rs : List PlainRecord) → all ≡ r ∷ rs → AreAlike all → AreAlike rs
alike_left all r rs e is =
    let whole : AreAlike (r ∷ rs) = subst AreAlike e is in
    record { owner = whole.owner; are = whole.are.1 }

pub others_alike : (octets : List ℕ) (all : List RecordSpan) (span : RecordSpan) (spans : List RecordSpan) (rest : List ℕ) → all ≡ span ∷ spans → rest ≡ drop (span.front + span.back) octets → AreAlike (records_in octets all) → AreAlike (records_in rest spans)
others_alike octets all span spans rest e er is = alike_left (records_in octets all) (first_in octets span) (records_in rest spans) (one_less octets all span spans (first_in octets span) rest e refl er) is

-- the owner of the first of them
alike_first : (r : PlainRecord) (rs : List PlainRecord) → AreAlike (r ∷ rs) → AllByRecursion (IsAlike r.owner) (r ∷ rs)
alike_first r rs is = subst (λ (owner : Name). AllByRecursion (IsAlike owner) (r ∷ rs)) (sym is.are.0.is_owner) is.are

pub owner_of_all : (octets : List ℕ) (all : List RecordSpan) (span : RecordSpan) (spans : List RecordSpan) (wire : List ℕ) → all ≡ span ∷ spans → wire ≡ take (span.front - 4) octets → AreAlike (records_in octets all)
    → AllByRecursion (IsAlike (labels_in wire)) (records_in octets all)
owner_of_all octets all span spans wire e ew is =
    let first = first_in octets span in
    let rest = records_in (drop (span.front + span.back) octets) spans in
    let these : records_in octets all ≡ first ∷ rest = one_less octets all span spans first (drop (span.front + span.back) octets) e refl refl in
    let whole : AllByRecursion (IsAlike first.owner) (first ∷ rest) = alike_first first rest (subst AreAlike these is) in
    let here : AllByRecursion (IsAlike first.owner) (records_in octets all) = subst (AllByRecursion (IsAlike first.owner)) (sym these) whole in
    subst (λ (l : List ℕ). AllByRecursion (IsAlike (labels_in l)) (records_in octets all)) (sym ew) here

-- ---- the place of their owner

all_pointed : (places : List Place) (offset : ℕ) (owner : Name) (rs : List PlainRecord) → compressed_octets places owner ≡ pointer_octets offset → ((at : ℕ) → new_places places at owner ≡ []) → AllByRecursion (IsAlike owner) rs
    → AllByRecursion (IsPointed places offset) rs
all_pointed places offset owner [] pointer none h = tt
all_pointed places offset owner (r ∷ rs) pointer none h = (
  record {
    pointer = ap (compressed_octets places) h.0.is_owner ∙ pointer;
    no_places = λ at. ap (new_places places at) h.0.is_owner ∙ none at;
    is_plain = h.0.is_plain;
  },
  all_pointed places offset owner rs pointer none h.1,
)

pub pointed_if_known : (result : Option ℕ) (places : List Place) (owner : Name) (rs : List PlainRecord) → IfSome result (λ offset. compressed_octets places owner ≡ pointer_octets offset) → ((at : ℕ) → IfSome result (λ offset. new_places places at owner ≡ []))
    → AllByRecursion (IsAlike owner) rs → IfSome result (λ offset. AllByRecursion (IsPointed places offset) rs)
pointed_if_known None places owner rs pointer none h = tt
pointed_if_known (Some offset) places owner rs pointer none h = all_pointed places offset owner rs pointer none h

-- ---- one record

pointed_record : (places : List Place) (offset : ℕ) (before new : List ℕ) (r : PlainRecord) → IsPointed places offset r
    → new ≡ before ++ ((pointer_octets offset ++ (number_octets 2 r.rtype ++ number_octets 2 r.class ++ number_octets 4 r.ttl ++ number_octets 2 (length r.rdata))) ++ r.rdata) → draft new places ≡ with_record (draft before places) r
pointed_record places offset before new r is e =
    let point = pointer_octets offset in
    let between = before ++ point in
    let fields = field_octets r (length r.rdata) in
    let owner : between ≡ before ++ compressed_octets places r.owner = ap (λ (l : List ℕ). before ++ l) (sym is.pointer) in
    let known : places ≡ places ++ new_places places (length before) r.owner = sym (ap (λ (ps : List Place). places ++ ps) (is.no_places (length before)) ∙ append-nil places) in
    let data_is : plain_part places r.rdata ≡ data_by (compressed_layout r.rtype r.class) places (length between + 10) r.rdata = ap (λ (layout : Option (List Part)). data_by layout places (length between + 10) r.rdata) (sym is.is_plain) in
    let whole : new ≡ (between ++ fields) ++ r.rdata = e ∙ sym (append_assoc before (point ++ fields) r.rdata) ∙ ap (λ (l : List ℕ). l ++ r.rdata) (sym (append_assoc before point fields)) in
    record_is before between new places places places r r.owner refl owner known (whole ∙ ap (λ (w : WrittenPart). (between ++ field_octets r (length w.octets)) ++ w.octets) data_is) (ap (λ (w : WrittenPart). w.places) data_is)

pub pointed_aged : (places : List Place) (offset : ℕ) (before new rdata : List ℕ) (r : PlainRecord) (seconds rtype class ttl : ℕ) → IsPointed places offset r → rtype ≡ r.rtype → class ≡ r.class → ttl ≡ r.ttl - seconds → rdata ≡ r.rdata
    → new ≡ before ++ ((pointer_octets offset ++ (number_octets 2 rtype ++ number_octets 2 class ++ number_octets 4 ttl ++ number_octets 2 (length rdata))) ++ rdata) → draft new places ≡ with_record (draft before places) (aged seconds r)
pointed_aged places offset before new rdata r seconds rtype class ttl is et ec el ed e =
    let older : IsPointed places offset (aged seconds r) = record { pointer = is.pointer; no_places = is.no_places; is_plain = is.is_plain } in
    let same : (pointer_octets offset ++ (number_octets 2 rtype ++ number_octets 2 class ++ number_octets 4 ttl ++ number_octets 2 (length rdata))) ++ rdata
    ≡ (pointer_octets offset ++ (number_octets 2 r.rtype ++ number_octets 2 r.class ++ number_octets 4 (r.ttl - seconds) ++ number_octets 2 (length r.rdata))) ++ r.rdata = rw (et, ec, el, ed) refl
    in
    pointed_record places offset before new (aged seconds r) older (e ∙ ap (λ (l : List ℕ). before ++ l) same)

-- ---- one after another, up to the limit

fits : (limit : ℕ) (octets : List ℕ) (places : List Place) → length octets ≤ limit → kept_within limit (draft octets places) ≡ within (draft octets places)
fits limit octets places le =
    let shorter : ltb limit (length octets) ≡ false = le-ltb limit (length octets) le in
    rw shorter refl

exceeds : (limit : ℕ) (octets : List ℕ) (places : List Place) → limit < length octets → kept_within limit (draft octets places) ≡ beyond
exceeds limit octets places lt =
    let longer : ltb limit (length octets) ≡ true = lt-ltb limit (length octets) lt in
    rw longer refl

-- what is left of the records, written behind the octets, is the whole
abbrev pub GoesOn : List Place → ℕ → ℕ → ℕ → List ℕ → List PlainRecord → Progress → Type 0
GoesOn places limit offset seconds octets rs whole = AllByRecursion (IsPointed places offset) rs × (progress_after limit (within (draft octets places)) (map (aged seconds) rs) ≡ whole)

-- one record is written
written_one : (places : List Place) (limit offset seconds : ℕ) (old new : List ℕ) (whole : Progress) (r : PlainRecord) (rs : List PlainRecord) → (IsPointed places offset r → draft new places ≡ with_record (draft old places) (aged seconds r))
    → GoesOn places limit offset seconds old (r ∷ rs) whole → progress_after limit (kept_within limit (draft new places)) (map (aged seconds) rs) ≡ whole
unfolding progress_after
written_one places limit offset seconds old new whole r rs step h = ap (λ (d : Draft). progress_after limit (kept_within limit d) (map (aged seconds) rs)) (step h.0.0) ∙ h.1

pub alike_more : (places : List Place) (limit offset seconds : ℕ) (old new : List ℕ) (whole : Progress) (r : PlainRecord) (all rs : List PlainRecord) → all ≡ r ∷ rs → (IsPointed places offset r → draft new places ≡ with_record (draft old places) (aged seconds r)) → length new ≤ limit
    → GoesOn places limit offset seconds old all whole → GoesOn places limit offset seconds new rs whole
alike_more places limit offset seconds old new whole r all rs is step le h =
    let these : GoesOn places limit offset seconds old (r ∷ rs) whole = subst (λ (l : List PlainRecord). GoesOn places limit offset seconds old l whole) is h in
    (these.0.1, ap (λ (p : Progress). progress_after limit p (map (aged seconds) rs)) (sym (fits limit new places le)) ∙ written_one places limit offset seconds old new whole r rs step these)

pub alike_beyond : (places : List Place) (limit offset seconds : ℕ) (old new : List ℕ) (whole : Progress) (r : PlainRecord) (all rs : List PlainRecord) → all ≡ r ∷ rs → (IsPointed places offset r → draft new places ≡ with_record (draft old places) (aged seconds r)) → limit < length new
    → GoesOn places limit offset seconds old all whole → beyond ≡ whole
alike_beyond places limit offset seconds old new whole r all rs is step lt h =
    let these : GoesOn places limit offset seconds old (r ∷ rs) whole = subst (λ (l : List PlainRecord). GoesOn places limit offset seconds old l whole) is h in
    sym (beyond_stays limit (map (aged seconds) rs)) ∙ ap (λ (p : Progress). progress_after limit p (map (aged seconds) rs)) (sym (exceeds limit new places lt)) ∙ written_one places limit offset seconds old new whole r rs step these

pub alike_done : (places : List Place) (limit offset seconds : ℕ) (octets : List ℕ) (whole : Progress) (all : List PlainRecord) → all ≡ [] → GoesOn places limit offset seconds octets all whole → within (draft octets places) ≡ whole
unfolding progress_after
alike_done places limit offset seconds octets whole all is h =
    let these : GoesOn places limit offset seconds octets [] whole = subst (λ (l : List PlainRecord). GoesOn places limit offset seconds octets l whole) is h in
    these.1

-- ---- the writer

-- nothing is written behind what is longer than the limit
pub beyond_all : (limit : ℕ) (octets : List ℕ) (places : List Place) (b : Bool) (w : Writing) (rs : List PlainRecord) → writing limit (progress_of octets places b) ≡ w → b ≡ true → w ≡ writing_after w rs
beyond_all limit octets places true w rs e t = subst (λ (v : Writing). v ≡ writing_after v rs) e (ap (writing limit) (sym (beyond_stays limit rs)))
beyond_all limit octets places false w rs e t = absurd cc

pub alike_written : (limit : ℕ) (octets octets2 : List ℕ) (places : List Place) (b b2 : Bool) (w : Writing) (rs : List PlainRecord) → writing limit (progress_of octets places b) ≡ w → b ≡ false
    → progress_of octets2 places b2 ≡ progress_after limit (within (draft octets places)) rs → writing limit (progress_of octets2 places b2) ≡ writing_after w rs
alike_written limit octets octets2 places b b2 w rs e f is =
    let start : w ≡ writing limit (within (draft octets places)) = sym e ∙ ap (λ (c : Bool). writing limit (progress_of octets places c)) f in
    ap (writing limit) is ∙ sym (ap (λ (v : Writing). writing_after v rs) start)
