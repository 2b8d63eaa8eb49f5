-- What the key of a question tells.
use Rattle.std.proofs.Common.{◌≡◌, ◌==◌, ◌↔◌, ◌&&◌, inl, inr, ℕ, Bool, true, [], ◌++◌, refl, sym, ap, ◌∙◌, append_assoc, true≢false}
use Rattle.std.proofs.lemmas.List.{append-nil}
use Rattle.std.proofs.lemmas.Bool.Decides.{eqb_tells}
use Rattle.std.proofs.lemmas.Cmp.{nat_eq_equiv}
use Rattle.dns_name.specs.Alike.{same_name}
use Rattle.dns_name.specs.Labels.{lowered, name_octets}
use Rattle.dns_name.proofs.WireLemmas.{IsName-lowered}
use Rattle.dns_record.specs.Number.{number_octets}
use Rattle.dns_record.proofs.Identities.{front_name, front_number}
use Rattle.dns_message.specs.declared.question.Question.{Question}
use Rattle.dns_message.specs.Spelling.{IsQuestion}
use Rattle.upstream_link.specs.Fact.{same_question}
use Rattle.upstream_link.proofs.Found.{alike, alike_if, both}
use Rattle.answer_cache.specs.Key.{key_of}

regrouped : (q : Question) → key_of q ≡ name_octets (lowered q.name) ++ (number_octets 2 q.qtype ++ number_octets 2 q.qclass)
unfolding key_of
regrouped q = append_assoc (name_octets (lowered q.name)) (number_octets 2 q.qtype) (number_octets 2 q.qclass)

same_number : (n m : ℕ) → (n == m) ≡ true → n ≡ m
same_number n m e = elim (eqb_tells n m) [ inl same ↦ same.1 | inr differs ↦ absurd (true≢false (sym e ∙ differs.0)) ]

same_if : (n m : ℕ) → n ≡ m → (n == m) ≡ true
same_if n m e = ap (λ (k : ℕ). n == k) (sym e) ∙ nat_eq_equiv.refl n

all_three : (a b c : Bool) → a ≡ true → b ≡ true → c ≡ true → (a && (b && c)) ≡ true
all_three a b c ha hb hc = rw (ha, hb, hc) refl

told : (a b : Question) → IsQuestion a → IsQuestion b → key_of a ≡ key_of b → same_question a b ≡ true
told a b ha hb e =
    let names = front_name (lowered a.name) (lowered b.name) (number_octets 2 a.qtype ++ number_octets 2 a.qclass) (number_octets 2 b.qtype ++ number_octets 2 b.qclass)
    (IsName-lowered a.name ha.is_name) (IsName-lowered b.name hb.is_name) (sym (regrouped a) ∙ e ∙ regrouped b) in
    let types = front_number a.qtype b.qtype (number_octets 2 a.qclass) (number_octets 2 b.qclass) ha.type_fits hb.type_fits names.1 in
    let classes = front_number a.qclass b.qclass [] [] ha.class_fits hb.class_fits (append-nil (number_octets 2 a.qclass) ∙ types.1 ∙ sym (append-nil (number_octets 2 b.qclass))) in
    all_three (same_name a.name b.name) (a.qtype == b.qtype) (a.qclass == b.qclass)
    (alike_if a.name b.name names.0) (same_if a.qtype b.qtype types.0) (same_if a.qclass b.qclass classes.0)

keyed : (a b : Question) → same_question a b ≡ true → key_of a ≡ key_of b
unfolding key_of
keyed a b e =
    let name = both (same_name a.name b.name) (a.qtype == b.qtype && a.qclass == b.qclass) e in
    let numbers = both (a.qtype == b.qtype) (a.qclass == b.qclass) name.1 in
    let names = alike a.name b.name name.0 in
    let types = same_number a.qtype b.qtype numbers.0 in
    let classes = same_number a.qclass b.qclass numbers.1 in
    λ i. (name_octets (names i) ++ number_octets 2 (types i)) ++ number_octets 2 (classes i)

pub alike_by_key : (a b : Question) → IsQuestion a → IsQuestion b → (key_of a ≡ key_of b) ↔ (same_question a b ≡ true)
alike_by_key a b ha hb = (told a b ha hb, keyed a b)
