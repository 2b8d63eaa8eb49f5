-- How long a truncated message is.
use Rattle.std.proofs.Common.{◌≡◌, ℕ, ◌+◌, ◌≤◌, List, [], ◌∷◌, ◌++◌, length, Option, Some, None, Result, Ok, Err, refl, ap, ◌∙◌, arith, length-append}
use Rattle.std.specs.Prelude.{IfSome, OnOk}
use Rattle.dns_name.specs.Labels.{name_octets}
use Rattle.dns_record.specs.Number.{number_octets}
use Rattle.dns_record.proofs.Numbers.{length-number_octets}
use Rattle.dns_message.specs.declared.edns.Edns.{Edns}
use Rattle.dns_message.specs.declared.header.Header.{Header}
use Rattle.dns_message.specs.declared.question.Question.{Question}
use Rattle.dns_message.specs.Limit.{truncated_header, truncated_octets}
use Rattle.dns_message.specs.Spelling.{first_flags, second_flags, question_count, question_octets, count_octets, header_octets, records_octets, opt_count, opt_octets, parts_octets, IsQuestion}

length-counts : (q a u d : ℕ) → length (count_octets q a u d) ≡ 8
unfolding count_octets
length-counts q a u d =
    let n = λ (k : ℕ). number_octets 2 k in
    omega (
      arith,
      length-append ((n q ++ n a) ++ n u) (n d),
      length-append (n q ++ n a) (n u),
      length-append (n q) (n a),
      length-number_octets 2 q,
      length-number_octets 2 a,
      length-number_octets 2 u,
      length-number_octets 2 d,
    )

pub length-header : (z : ℕ) (h : Header) (q a u d : ℕ) → length (header_octets z h q a u d) ≡ 12
unfolding header_octets
length-header z h q a u d =
    let flags : List ℕ = first_flags h ∷ second_flags z h ∷ [] in
    omega (arith, length-append (number_octets 2 h.id ++ flags) (count_octets q a u d), length-append (number_octets 2 h.id) flags, length-number_octets 2 h.id, length-counts q a u d)

question_short : (question : Option Question) → IfSome question IsQuestion → length (question_octets question) ≤ 259
unfolding question_octets
question_short None is = omega arith
question_short (Some q) is =
    let name = name_octets q.name in
    let qtype = number_octets 2 q.qtype in
    let qclass = number_octets 2 q.qclass in
    omega (arith, length-append (name ++ qtype) qclass, length-append name qtype, length-number_octets 2 q.qtype, length-number_octets 2 q.qclass, is.is_name.short)

opt_short : (edns : Option Edns) → length (opt_octets edns) ≤ 11
unfolding opt_octets
opt_short None = omega arith
opt_short (Some e) =
    let kind = number_octets 2 41 in
    let payload = number_octets 2 e.payload in
    let flags : List ℕ = e.extended ∷ e.version ∷ 0 ∷ 0 ∷ [] in
    let none = number_octets 2 0 in
    omega (
      arith,
      length-append ((((0 ∷ []) ++ kind) ++ payload) ++ flags) none,
      length-append (((0 ∷ []) ++ kind) ++ payload) flags,
      length-append ((0 ∷ []) ++ kind) payload,
      length-append (0 ∷ []) kind,
      length-number_octets 2 41,
      length-number_octets 2 e.payload,
      length-number_octets 2 0,
    )

no_records : length (records_octets []) ≡ 0
unfolding records_octets
no_records = refl

-- a truncated message has at most 282 octets
pub truncated_short : (h : Header) (question : Option Question) (edns : Option Edns) → IfSome question IsQuestion → length (truncated_octets h question edns) ≤ 282
unfolding parts_octets
truncated_short h question edns is =
    let header = header_octets 0 (truncated_header h) (question_count question) 0 0 (0 + opt_count edns) in
    let none = records_octets [] in
    let asked = question_octets question in
    omega (
      arith,
      length-append ((((header ++ asked) ++ none) ++ none) ++ none) (opt_octets edns),
      length-append (((header ++ asked) ++ none) ++ none) none,
      length-append ((header ++ asked) ++ none) none,
      length-append (header ++ asked) none,
      length-append header asked,
      length-header 0 (truncated_header h) (question_count question) 0 0 (0 + opt_count edns),
      question_short question is,
      opt_short edns,
      no_records,
    )

-- what was written in place of a message that is too long
pub cut_fits : {E : Type 0} (r : Result (Unit {0}) E) (old out : List ℕ) (h : Header) (question : Option Question) (edns : Option Edns) (limit : ℕ) → 282 ≤ limit → old ≡ []
    → OnOk r (out ≡ old ++ truncated_octets h question edns) → OnOk r (IfSome question IsQuestion) → OnOk r (length out ≤ limit)
cut_fits (Ok x) old out h question edns limit room none written is =
    let all : out ≡ truncated_octets h question edns = written ∙ ap (λ (l : List ℕ). l ++ truncated_octets h question edns) none in
    omega (arith, room, ap length all, truncated_short h question edns is)
cut_fits (Err e) old out h question edns limit room none written is = tt
