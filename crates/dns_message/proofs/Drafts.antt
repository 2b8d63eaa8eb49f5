-- A message that is being written: its parts, one after another.
use Rattle.std.proofs.Common.{◌≡◌, ℕ, get_or, ◌+◌, ◌-◌, ◌/◌, ◌%◌, ◌^◌, ◌<◌, ◌≤◌, List, [], ◌∷◌, ◌++◌, length, take, drop, set, Result, Ok, Err, refl, sym, ap, ◌∙◌, append_assoc, arith, length-append}
use Rattle.std.specs.Result.{OnOk}
use Rattle.std.proofs.lemmas.List.{append-nil, drop-drop, drop-set, drop-set-add, drop_at, length-drop, take-append-drop, take-set, take-set-le, take_at}
use Rattle.dns_name.specs.Labels.{IsName, Name, name_octets}
use Rattle.dns_name.specs.Wire.{labels_in}
use Rattle.dns_name.proofs.WireLemmas.{labels_in-octets}
use Rattle.packed_names.specs.Places.{Place, compressed_octets, new_places, pointer_octets}
use Rattle.dns_record.specs.declared.part.Part.{Part}
use Rattle.dns_record.specs.Number.{number_octets}
use Rattle.dns_record.specs.Record.{PlainRecord}
use Rattle.dns_record.proofs.Numbers.{length-number_octets}
use Rattle.dns_message.specs.declared.header.Header.{Header}
use Rattle.dns_message.specs.Compressed.{WrittenPart, compressed_layout, data_by, data_parts, field_octets, owner_written, places_behind_owner, with_record}
use Rattle.dns_message.specs.Progress.{draft}
use Rattle.dns_message.specs.Spelling.{header_octets}
use Rattle.dns_message.proofs.Limits.{length-header}
use Rattle.dns_message.proofs.CompressedRecords.{length-fields, regrouped}

-- ---- the length of the data

two_set : (xs : List ℕ) (at a b : ℕ) → at + 2 ≤ length xs → set (set xs at a) (at + 1) b ≡ take at xs ++ (a ∷ b ∷ drop (at + 2) xs)
two_set xs at a b long =
    let first = set xs at a in
    let both = set first (at + 1) b in
    let rest = drop (at + 1) xs in
    let front : take at both ≡ take at xs = take-set-le at first (at + 1) b (omega arith) ∙ take-set xs at a in
    let some : 0 < length rest = omega (arith, length-drop (at + 1) xs) in
    let last : set rest 0 b ≡ b ∷ drop 1 rest = drop-set rest 0 b some in
    let two : drop 1 rest ≡ drop (at + 2) xs = drop-drop 1 (at + 1) xs ∙ ap (λ (n : ℕ). drop n xs) (omega arith) in
    let behind : drop at both ≡ a ∷ b ∷ drop (at + 2) xs =
    drop-set-add at first 1 b ∙ ap (λ (l : List ℕ). set l 1 b) (drop-set xs at a (omega arith)) ∙ ap (λ (l : List ℕ). a ∷ l) last ∙ ap (λ (l : List ℕ). a ∷ b ∷ l) two
    in
    sym (take-append-drop at both) ∙ ap (λ (l : List ℕ). l ++ drop at both) front ∙ ap (λ (l : List ℕ). take at xs ++ l) behind

-- the two octets of a number are set
pub number_set : (octets items new : List ℕ) (at len : ℕ) → at + 2 ≤ length octets → items ≡ octets → len ≡ length items → new ≡ set (set items at ((len - (at + 2)) / 256 % 256)) (at + 1) ((len - (at + 2)) % 256)
    → new ≡ take at octets ++ (number_octets 2 (length octets - (at + 2)) ++ drop (at + 2) octets)
unfolding number_octets
number_set octets items new at len long same size is =
    let left : len - (at + 2) ≡ length octets - (at + 2) = ap (λ (n : ℕ). n - (at + 2)) (size ∙ ap (λ (l : List ℕ). length l) same) in
    is
    ∙ ap (λ (l : List ℕ). set (set l at ((len - (at + 2)) / 256 % 256)) (at + 1) ((len - (at + 2)) % 256)) same
    ∙ ap (λ (n : ℕ). set (set octets at (n / 256 % 256)) (at + 1) (n % 256)) left
    ∙ two_set octets at ((length octets - (at + 2)) / 256 % 256) ((length octets - (at + 2)) % 256) long

put_regrouped : (before eight n rdata : List ℕ) → (before ++ eight) ++ (n ++ rdata) ≡ (before ++ (eight ++ n)) ++ rdata
put_regrouped before eight n rdata = simp append_assoc

-- where the data begin
pub data_place : (before out : List ℕ) (r : PlainRecord) (size : ℕ) → out ≡ before ++ field_octets r size → length out ≡ length before + 10
data_place before out r size e = omega (arith, ap length e, length-append before (field_octets r size), length-fields r size)

-- the length of the data is set behind them
pub length_put : (before rdata octets : List ℕ) (r : PlainRecord) (at : ℕ) → octets ≡ (before ++ field_octets r 0) ++ rdata → at ≡ length before + 8
    → take at octets ++ (number_octets 2 (length octets - (at + 2)) ++ drop (at + 2) octets) ≡ (before ++ field_octets r (length rdata)) ++ rdata
length_put before rdata octets r at e place =
    let eight = (number_octets 2 r.rtype ++ number_octets 2 r.class) ++ number_octets 4 r.ttl in
    let zeros = number_octets 2 0 in
    let whole : octets ≡ (before ++ eight) ++ (zeros ++ rdata) = e ∙ sym (put_regrouped before eight zeros rdata) in
    let ten : length (before ++ field_octets r 0) ≡ at + 2 = omega (arith, length-append before (field_octets r 0), length-fields r 0, place) in
    let eighth : length (before ++ eight) ≡ at = omega (arith, ap length (put_regrouped before eight zeros []), length-append (before ++ field_octets r 0) [], length-append (before ++ eight) (zeros ++ []), length-append zeros [], length-number_octets 2 0, ten) in
    let front : take at octets ≡ before ++ eight = ap (take at) whole ∙ take_at (before ++ eight) (zeros ++ rdata) at eighth in
    let behind : drop (at + 2) octets ≡ rdata = ap (drop (at + 2)) e ∙ drop_at (before ++ field_octets r 0) rdata (at + 2) ten in
    let size : length octets - (at + 2) ≡ length rdata = omega (arith, ap length e, length-append (before ++ field_octets r 0) rdata, ten) in
    ap (λ (l : List ℕ). l ++ (number_octets 2 (length octets - (at + 2)) ++ drop (at + 2) octets)) front
    ∙ ap (λ (n : ℕ). (before ++ eight) ++ (number_octets 2 n ++ drop (at + 2) octets)) size
    ∙ ap (λ (l : List ℕ). (before ++ eight) ++ (number_octets 2 (length rdata) ++ l)) behind
    ∙ put_regrouped before eight (number_octets 2 (length rdata)) rdata

-- ---- the start

pub header_is_twelve : (before out : List ℕ) (h : Header) (q n u d : ℕ) → before ≡ [] → out ≡ before ++ header_octets 0 h q n u d → length out ≡ 12
header_is_twelve before out h q n u d none e = ap length e ∙ ap (λ (l : List ℕ). length (l ++ header_octets 0 h q n u d)) none ∙ length-header 0 h q n u d

-- ---- a record, where it lies

pub ref_is : (r x : PlainRecord) (octets : List ℕ) (owner : Name) (rtype class ttl : ℕ) (rdata : List ℕ) → x ≡ record { owner = labels_in octets; rtype = rtype; class = class; ttl = ttl; rdata = rdata }
    → octets ≡ name_octets owner → IsName owner → owner ≡ r.owner → rtype ≡ r.rtype → class ≡ r.class → ttl ≡ r.ttl → rdata ≡ r.rdata → x ≡ r
ref_is r x octets owner rtype class ttl rdata e wire name f g h i j = e ∙ rw (labels_in-octets octets owner wire name, f, g, h, i, j) refl

-- ---- data with their length in front of them

pub data_room : (before between octets own : List ℕ) (r : PlainRecord) (start : ℕ) → between ≡ before ++ field_octets r 0 → start ≡ length between → octets ≡ between ++ own → (2 ≤ start) × (start - 2 + 2 ≤ length octets)
data_room before between octets own r start e len f =
    let place = data_place before between r 0 e in
    let size : length octets ≡ length between + length own = ap length f ∙ length-append between own in
    (omega arith, omega arith)

pub data_put : (before between octets new : List ℕ) (places : List Place) (parts : List Part) (rdata : List ℕ) (r : PlainRecord) (start : ℕ) → between ≡ before ++ field_octets r 0 → start ≡ length between
    → octets ≡ between ++ (data_parts places (length between) parts rdata).octets → new ≡ take (start - 2) octets ++ (number_octets 2 (length octets - (start - 2 + 2)) ++ drop (start - 2 + 2) octets)
    → new ≡ (before ++ field_octets r (length (data_parts places (length before + 10) parts rdata).octets)) ++ (data_parts places (length before + 10) parts rdata).octets
data_put before between octets new places parts rdata r start e len f g =
    let written = data_parts places (length before + 10) parts rdata in
    let place = data_place before between r 0 e in
    let same : data_parts places (length between) parts rdata ≡ written = ap (λ (n : ℕ). data_parts places n parts rdata) place in
    let whole : octets ≡ (before ++ field_octets r 0) ++ written.octets = f ∙ ap (λ (w : WrittenPart). between ++ w.octets) same ∙ ap (λ (l : List ℕ). l ++ written.octets) e in
    g ∙ length_put before written.octets octets r (start - 2) whole (omega arith)

pub data_places : (before between : List ℕ) (known places : List Place) (parts : List Part) (rdata : List ℕ) (r : PlainRecord) → between ≡ before ++ field_octets r 0 → known ≡ (data_parts places (length between) parts rdata).places
    → known ≡ (data_parts places (length before + 10) parts rdata).places
data_places before between known places parts rdata r e f = f ∙ ap (λ (n : ℕ). (data_parts places n parts rdata).places) (data_place before between r 0 e)

-- ---- a record behind what is written

pub record_is : (before between new : List ℕ) (places known last : List Place) (r : PlainRecord) (name : Name) → name ≡ r.owner → between ≡ before ++ compressed_octets places name → known ≡ places ++ new_places places (length before) name
    → (let written = data_by (compressed_layout r.rtype r.class) known (length between + 10) r.rdata in new ≡ (between ++ field_octets r (length written.octets)) ++ written.octets → last ≡ written.places → draft new last ≡ with_record (draft before places) r)
unfolding with_record
record_is before between new places known last r name owner e f g h =
    let octets = compressed_octets places r.owner in
    let layout = compressed_layout r.rtype r.class in
    let all = places ++ new_places places (length before) r.owner in
    let written = data_by layout all (length before + length octets + 10) r.rdata in
    let front : between ≡ before ++ octets = e ∙ ap (λ (n : Name). before ++ compressed_octets places n) owner in
    let known_is : known ≡ all = f ∙ ap (λ (n : Name). places ++ new_places places (length before) n) owner in
    let at : length between + 10 ≡ length before + length octets + 10 = omega (arith, ap length front, length-append before octets) in
    let same : data_by layout known (length between + 10) r.rdata ≡ written = ap (λ (ps : List Place). data_by layout ps (length between + 10) r.rdata) known_is ∙ ap (λ (n : ℕ). data_by layout all n r.rdata) at in
    let size = number_octets 2 (length written.octets) in
    let octets_are : new ≡ before ++ octets ++ number_octets 2 r.rtype ++ number_octets 2 r.class ++ number_octets 4 r.ttl ++ size ++ written.octets =
    g
    ∙ ap (λ (w : WrittenPart). (between ++ field_octets r (length w.octets)) ++ w.octets) same
    ∙ ap (λ (l : List ℕ). (l ++ field_octets r (length written.octets)) ++ written.octets) front
    ∙ sym (regrouped before octets (number_octets 2 r.rtype) (number_octets 2 r.class) (number_octets 4 r.ttl) size written.octets)
    in
    let places_are : last ≡ written.places = h ∙ ap (λ (w : WrittenPart). w.places) same in
    ap (λ (l : List ℕ). draft l last) octets_are ∙ ap (draft (before ++ octets ++ number_octets 2 r.rtype ++ number_octets 2 r.class ++ number_octets 4 r.ttl ++ size ++ written.octets)) places_are

pub record_done : {E : Type 0} (result : Result (Unit {0}) E) (before new : List ℕ) (places last : List Place) (r : PlainRecord)
    → (let written = data_by (compressed_layout r.rtype r.class) (places_behind_owner places before r) (length (owner_written places before r) + 10) r.rdata in
    OnOk result (new ≡ (owner_written places before r ++ field_octets r (length written.octets)) ++ written.octets) → OnOk result (last ≡ written.places) → OnOk result (draft new last ≡ with_record (draft before places) r))
record_done (Ok x) before new places last r g h = record_is before (owner_written places before r) new places (places_behind_owner places before r) last r r.owner refl refl refl g h
record_done (Err x) before new places last r g h = tt

-- ---- the owner of a record and the fields behind it

-- the owner is a pointer
pub lead_pointed : (before new fields wire point : List ℕ) (places : List Place) (r : PlainRecord) (owner : Name) (len : ℕ) → wire ≡ name_octets owner → IsName owner → owner ≡ r.owner → compressed_octets places (labels_in wire) ≡ point → fields ≡ field_octets r len
    → new ≡ before ++ (point ++ fields) → new ≡ owner_written places before r ++ field_octets r len
lead_pointed before new fields wire point places r owner len is name e f g h =
    let octets : point ≡ compressed_octets places r.owner = sym f ∙ ap (compressed_octets places) (labels_in-octets wire owner is name ∙ e) in
    h ∙ sym (append_assoc before point fields) ∙ ap (λ (l : List ℕ). (before ++ l) ++ fields) octets ∙ ap (λ (l : List ℕ). owner_written places before r ++ l) g

pub lead_places : (before wire : List ℕ) (places : List Place) (r : PlainRecord) (owner : Name) → wire ≡ name_octets owner → IsName owner → owner ≡ r.owner → new_places places (length before) (labels_in wire) ≡ [] → places ≡ places_behind_owner places before r
lead_places before wire places r owner is name e f =
    sym (append-nil places) ∙ ap (λ (ps : List Place). places ++ ps) (sym f ∙ ap (new_places places (length before)) (labels_in-octets wire owner is name ∙ e))

-- the owner is written as it is compressed
pub lead_written : (before between new fields wire : List ℕ) (places : List Place) (r : PlainRecord) (owner : Name) (len : ℕ) → wire ≡ name_octets owner → IsName owner → owner ≡ r.owner → between ≡ before ++ compressed_octets places (labels_in wire) → fields ≡ field_octets r len
    → new ≡ between ++ fields → new ≡ owner_written places before r ++ field_octets r len
lead_written before between new fields wire places r owner len is name e f g h =
    let octets : between ≡ owner_written places before r = f ∙ ap (λ (n : Name). before ++ compressed_octets places n) (labels_in-octets wire owner is name ∙ e) in
    h ∙ ap (λ (l : List ℕ). l ++ fields) octets ∙ ap (λ (l : List ℕ). owner_written places before r ++ l) g

pub lead_places_added : (before wire : List ℕ) (places known : List Place) (r : PlainRecord) (owner : Name) → wire ≡ name_octets owner → IsName owner → owner ≡ r.owner → known ≡ places ++ new_places places (length before) (labels_in wire) → known ≡ places_behind_owner places before r
lead_places_added before wire places known r owner is name e f = f ∙ ap (λ (n : Name). places ++ new_places places (length before) n) (labels_in-octets wire owner is name ∙ e)

-- ---- the fields of a record

pub fields_are : (rtype class ttl len : ℕ) → rtype < 2 ^ 16 → class < 2 ^ 16 → ttl < 2 ^ 32 → len < 2 ^ 16
    → rtype / 256 ∷ rtype % 256 ∷ class / 256 ∷ class % 256 ∷ ttl / 16777216 ∷ ttl / 65536 % 256 ∷ ttl / 256 % 256 ∷ ttl % 256 ∷ len / 256 ∷ len % 256 ∷ [] ≡ number_octets 2 rtype ++ number_octets 2 class ++ number_octets 4 ttl ++ number_octets 2 len
unfolding number_octets
fields_are rtype class ttl len a b c d =
    let first : rtype / 256 % 256 ≡ rtype / 256 = omega arith in
    let second : class / 256 % 256 ≡ class / 256 = omega arith in
    let third : ttl / 16777216 % 256 ≡ ttl / 16777216 = omega arith in
    let fourth : len / 256 % 256 ≡ len / 256 = omega arith in
    rw (first, second, third, fourth) refl

-- a pointer and the fields behind it
pub pointed_are : (p f : List ℕ) (offset rtype class ttl len : ℕ) → p ≡ pointer_octets offset → f ≡ number_octets 2 rtype ++ number_octets 2 class ++ number_octets 4 ttl ++ number_octets 2 len
    → get_or p 0 0 ∷ get_or p 1 0 ∷ get_or f 0 0 ∷ get_or f 1 0 ∷ get_or f 2 0 ∷ get_or f 3 0 ∷ get_or f 4 0 ∷ get_or f 5 0 ∷ get_or f 6 0 ∷ get_or f 7 0 ∷ get_or f 8 0 ∷ get_or f 9 0 ∷ [] ≡ pointer_octets offset ++ (number_octets 2 rtype ++ number_octets 2 class ++ number_octets 4 ttl ++ number_octets 2 len)
unfolding number_octets
pointed_are p f offset rtype class ttl len e g = rw (e, g) refl

-- a pointer, the fields behind it and the four octets of an address
pub pointed_address_is : (l : List ℕ) (offset rtype class ttl a b c d : ℕ) → l ≡ pointer_octets offset ++ (number_octets 2 rtype ++ number_octets 2 class ++ number_octets 4 ttl ++ number_octets 2 4)
    → get_or l 0 0 ∷ get_or l 1 0 ∷ get_or l 2 0 ∷ get_or l 3 0 ∷ get_or l 4 0 ∷ get_or l 5 0 ∷ get_or l 6 0 ∷ get_or l 7 0 ∷ get_or l 8 0 ∷ get_or l 9 0 ∷ get_or l 10 0 ∷ get_or l 11 0 ∷ a ∷ b ∷ c ∷ d ∷ []
    ≡ (pointer_octets offset ++ (number_octets 2 rtype ++ number_octets 2 class ++ number_octets 4 ttl ++ number_octets 2 4)) ++ a ∷ b ∷ c ∷ d ∷ []
unfolding number_octets
pointed_address_is l offset rtype class ttl a b c d e = rw e refl

-- a record whose owner is a pointer, with its data behind it
pub pointed_written : (before new wire point rdata : List ℕ) (places : List Place) (r : PlainRecord) (owner : Name) (rtype class ttl : ℕ) → wire ≡ name_octets owner → IsName owner → owner ≡ r.owner → rtype ≡ r.rtype → class ≡ r.class → ttl ≡ r.ttl → compressed_octets places (labels_in wire) ≡ point
    → new ≡ before ++ ((point ++ (number_octets 2 rtype ++ number_octets 2 class ++ number_octets 4 ttl ++ number_octets 2 (length rdata))) ++ rdata) → new ≡ (owner_written places before r ++ field_octets r (length rdata)) ++ rdata
pointed_written before new wire point rdata places r owner rtype class ttl is name e t k s f h =
    let fields = number_octets 2 rtype ++ number_octets 2 class ++ number_octets 4 ttl ++ number_octets 2 (length rdata) in
    let fields_same : fields ≡ field_octets r (length rdata) = rw (t, k, s) refl in
    h
    ∙ sym (append_assoc before (point ++ fields) rdata)
    ∙ ap (λ (l : List ℕ). l ++ rdata) (lead_pointed before (before ++ (point ++ fields)) fields wire point places r owner (length rdata) is name e f fields_same refl)
