-- A record that is written with its TTL apart.
use Rattle.std.proofs.Common.{◌≡◌, ℕ, ◌+◌, List, ◌++◌, length, refl, sym, ap, ◌∙◌, append_assoc, arith}
use Rattle.std.proofs.lemmas.List.{length-append}
use Rattle.dns_name.specs.Labels.{name_octets}
use Rattle.dns_record.specs.Number.{number_octets}
use Rattle.dns_record.specs.Record.{PlainRecord}
use Rattle.dns_message.specs.Written.{back_octets, front_octets, lasting_octets, span_of}
use Rattle.dns_message.specs.declared.record_refs.RecordSpan.{RecordSpan}

-- five pieces after what stands before them: three that stand before a TTL and two behind it
pub five_regrouped : (before a b c d e : List ℕ) → ((((before ++ a) ++ b) ++ c) ++ d) ++ e ≡ before ++ (((a ++ b) ++ c) ++ (d ++ e))
five_regrouped before a b c d e = simp append_assoc

pub lasting_pieces : (r : PlainRecord) (before a b c d e : List ℕ) → a ≡ before ++ name_octets r.owner → b ≡ a ++ number_octets 2 r.rtype → c ≡ b ++ number_octets 2 r.class
    → d ≡ c ++ number_octets 2 (length r.rdata) → e ≡ d ++ r.rdata → e ≡ before ++ lasting_octets r
unfolding front_octets back_octets
lasting_pieces r before a b c d e ea eb ec ed ee =
    ee
    ∙ ap (λ (l : List ℕ). l ++ r.rdata) (ed
    ∙ ap (λ (l : List ℕ). l ++ number_octets 2 (length r.rdata)) (ec
    ∙ ap (λ (l : List ℕ). l ++ number_octets 2 r.class) (eb
    ∙ ap (λ (l : List ℕ). l ++ number_octets 2 r.rtype) ea)))
    ∙ five_regrouped before (name_octets r.owner) (number_octets 2 r.rtype) (number_octets 2 r.class) (number_octets 2 (length r.rdata)) r.rdata

pub two_octets : (n : ℕ) → length (number_octets 2 n) ≡ 2
unfolding number_octets
two_octets n = refl

pub front_length : (r : PlainRecord) → length (front_octets r) ≡ length (name_octets r.owner) + 4
unfolding front_octets
front_length r =
    let name = name_octets r.owner in
    let rtype = number_octets 2 r.rtype in
    let class = number_octets 2 r.class in
    let both : length ((name ++ rtype) ++ class) ≡ length (name ++ rtype) + length class = length-append (name ++ rtype) class in
    let first : length (name ++ rtype) ≡ length name + length rtype = length-append name rtype in
    omega (arith, both, first, two_octets r.rtype, two_octets r.class)

pub back_length : (r : PlainRecord) → length (back_octets r) ≡ length r.rdata + 2
unfolding back_octets
back_length r =
    let both : length (number_octets 2 (length r.rdata) ++ r.rdata) ≡ length (number_octets 2 (length r.rdata)) + length r.rdata = length-append (number_octets 2 (length r.rdata)) r.rdata in
    omega (arith, both, two_octets (length r.rdata))

abbrev span : ℕ → ℕ → ℕ → RecordSpan
span front ttl back = record { front = front; ttl = ttl; back = back }

pub is_span : (r : PlainRecord) (front back : ℕ) → front ≡ length (name_octets r.owner) + 4 → back ≡ length r.rdata + 2 → span front r.ttl back ≡ span_of r
is_span r front back ef eb =
    ap (λ (n : ℕ). span n r.ttl back) (ef ∙ sym (front_length r)) ∙ ap (λ (n : ℕ). span (length (front_octets r)) r.ttl n) (eb ∙ sym (back_length r))
