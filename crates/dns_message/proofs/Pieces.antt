-- What is written in several steps, one after another.
use Rattle.std.proofs.Common.{◌≡◌, ℕ, ◌+◌, ◌/◌, ◌%◌, ◌^◌, ◌<◌, List, [], ◌∷◌, ◌++◌, length, take, get_or, refl, sym, ap, ◌∙◌, append_assoc, arith}
use Rattle.std.specs.List.{flat_map}
use Rattle.std.proofs.lemmas.List.{append-nil, take_more}
use Rattle.std.proofs.lemmas.List.Concat.{flat_map-append}
use Rattle.dns_record.specs.Number.{number_octets}
use Rattle.dns_record.specs.Record.{PlainRecord, record_octets}
use Rattle.dns_record.specs.declared.rtype.TheConstants.{OPT}
use Rattle.dns_message.specs.declared.header.Header.{Header}
use Rattle.dns_message.specs.Spelling.{count_octets, first_flags, header_octets, records_octets, second_flags}

-- the bytes of a header
pub header_is : (h : Header) (questions answers authorities additionals : ℕ) → h.id < 2 ^ 16
    → h.id / 256 ∷ h.id % 256 ∷ first_flags h ∷ second_flags 0 h ∷ questions / 256 % 256 ∷ questions % 256 ∷ answers / 256 % 256 ∷ answers % 256 ∷ authorities / 256 % 256 ∷ authorities % 256 ∷ additionals / 256 % 256 ∷ additionals % 256 ∷ [] ≡ header_octets 0 h questions answers authorities additionals
unfolding header_octets count_octets number_octets
header_is h questions answers authorities additionals lt =
    let high : h.id / 256 % 256 ≡ h.id / 256 = omega arith in
    rw high refl

-- the type and the class of a question
pub asked_is : (a b : ℕ) → a < 2 ^ 16 → b < 2 ^ 16 → a / 256 ∷ a % 256 ∷ b / 256 ∷ b % 256 ∷ [] ≡ number_octets 2 a ++ number_octets 2 b
unfolding number_octets
asked_is a b la lb =
    let first : a / 256 % 256 ≡ a / 256 = omega arith in
    let second : b / 256 % 256 ≡ b / 256 = omega arith in
    rw (first, second) refl

-- the bytes of an OPT record
pub opt_is : (payload extended version : ℕ) → payload < 2 ^ 16 → 0 ∷ 0 ∷ 41 ∷ payload / 256 ∷ payload % 256 ∷ extended ∷ version ∷ 0 ∷ 0 ∷ 0 ∷ 0 ∷ [] ≡ 0 ∷ [] ++ number_octets 2 OPT ++ number_octets 2 payload ++ (extended ∷ version ∷ 0 ∷ 0 ∷ []) ++ number_octets 2 0
unfolding number_octets
opt_is payload extended version lt =
    let high : payload / 256 % 256 ≡ payload / 256 = omega arith in
    rw high refl

-- one record more
pub records_more : (records : List PlainRecord) (i : ℕ) (d : PlainRecord) (before out out' : List ℕ) → i < length records → out ≡ before ++ records_octets (take i records) → out' ≡ out ++ record_octets (get_or records i d) → out' ≡ before ++ records_octets (take (i + 1) records)
unfolding records_octets
records_more records i d before out out' lt e f =
    let octets = flat_map record_octets (take i records) in
    let one = record_octets (get_or records i d) in
    let more : flat_map record_octets (take (i + 1) records) ≡ octets ++ one =
    ap (flat_map record_octets) (take_more records i d lt) ∙ flat_map-append record_octets (take i records) (get_or records i d ∷ []) ∙ ap (λ (l : List ℕ). octets ++ l) (append-nil one) in
    f ∙ ap (λ (l : List ℕ). l ++ one) e ∙ append_assoc before octets one ∙ ap (λ (l : List ℕ). before ++ l) (sym more)

pub none_written : (before : List ℕ) (records : List PlainRecord) → before ≡ before ++ records_octets (take 0 records)
unfolding records_octets
none_written before records = sym (append-nil before)

-- six pieces after what stands before them
pub regrouped : (before a b c d e f : List ℕ) → (((((before ++ a) ++ b) ++ c) ++ d) ++ e) ++ f ≡ before ++ (((((a ++ b) ++ c) ++ d) ++ e) ++ f)
regrouped before a b c d e f = simp append_assoc

-- two pieces after what stands before them
pub two_regrouped : (before a b : List ℕ) → (before ++ a) ++ b ≡ before ++ (a ++ b)
two_regrouped before a b = append_assoc before a b
