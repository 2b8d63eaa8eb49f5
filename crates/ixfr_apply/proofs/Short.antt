-- A request is much shorter than a frame may be.
use Rattle.std.proofs.Common.{◌≡◌, ◌≤◌, ◌+◌, ℕ, List, [], ◌∷◌, ◌++◌, length, Some, None, Result, Ok, Err, IfOk, refl, ap, ◌∙◌, arith}
use Rattle.std.proofs.lemmas.List.{append-nil, length-append}
use Rattle.dns_name.specs.Labels.{IsName, name_octets}
use Rattle.dns_record.specs.Number.{number_octets}
use Rattle.dns_record.specs.Record.{PlainRecord, record_octets}
use Rattle.dns_record.specs.Soa.{soa_octets, soa_record}
use Rattle.dns_record.specs.declared.soa.Soa.{Soa}
use Rattle.dns_message.specs.Spelling.{count_octets, header_octets, opt_octets, parts_octets, question_octets, records_octets, spelling}
use Rattle.edge_io.specs.declared.frame.TheConstants.{FRAME_MAX}
use Rattle.ixfr_apply.specs.Request.{newer_request, request_message, whole_request}

two_octets : (n : ℕ) → length (number_octets 2 n) ≡ 2
unfolding number_octets
two_octets n = refl

four_octets : (n : ℕ) → length (number_octets 4 n) ≡ 4
unfolding number_octets
four_octets n = refl

-- lengths of pieces one behind the other
three : (a b c : List ℕ) → length ((a ++ b) ++ c) ≡ length a + length b + length c
three a b c = omega (arith, length-append (a ++ b) c, length-append a b)

six : (a b c d e f : List ℕ) → length (((((a ++ b) ++ c) ++ d) ++ e) ++ f) ≡ length a + length b + length c + length d + length e + length f
six a b c d e f =
    omega (arith, length-append ((((a ++ b) ++ c) ++ d) ++ e) f, length-append (((a ++ b) ++ c) ++ d) e, length-append ((a ++ b) ++ c) d, three a b c)

seven : (a b c d e f g : List ℕ) → length ((((((a ++ b) ++ c) ++ d) ++ e) ++ f) ++ g) ≡ length a + length b + length c + length d + length e + length f + length g
seven a b c d e f g = omega (arith, length-append (((((a ++ b) ++ c) ++ d) ++ e) ++ f) g, six a b c d e f)

question_length : (name : List (List ℕ)) (qtype qclass : ℕ) → length (question_octets (Some (record { name = name; qtype = qtype; qclass = qclass }))) ≡ length (name_octets name) + 4
unfolding question_octets
question_length name qtype qclass =
    omega (arith, three (name_octets name) (number_octets 2 qtype) (number_octets 2 qclass), two_octets qtype, two_octets qclass)

no_records : length (records_octets []) ≡ 0
unfolding records_octets
no_records = refl

no_opt : length (opt_octets None) ≡ 0
unfolding opt_octets
no_opt = refl

header_length : (z : ℕ) (h : _) (a b c d : ℕ) → length (header_octets z h a b c d) ≡ 12
unfolding header_octets count_octets number_octets
header_length z h a b c d = refl

pub request_length : (id : ℕ) (origin : List (List ℕ)) (qtype : ℕ) (authority : List PlainRecord)
    → length (spelling (request_message id origin qtype authority)) ≡ 16 + length (name_octets origin) + length (records_octets authority)
unfolding parts_octets
request_length id origin qtype authority =
    let m = request_message id origin qtype authority in
    let header = header_octets 0 m.header 1 0 (length authority) 0 in
    omega (
      arith,
      six header (question_octets m.question) (records_octets []) (records_octets authority) (records_octets []) (opt_octets None),
      header_length 0 m.header 1 0 (length authority) 0,
      question_length origin qtype 1,
      no_records,
      no_opt,
    )

soa_length : (soa : Soa) → length (soa_octets soa) ≡ length (name_octets soa.mname) + length (name_octets soa.rname) + 20
unfolding soa_octets
soa_length soa =
    omega (
      arith,
      seven (name_octets soa.mname) (name_octets soa.rname) (number_octets 4 soa.serial) (number_octets 4 soa.refresh) (number_octets 4 soa.retry) (number_octets 4 soa.expire) (number_octets 4 soa.minimum),
      four_octets soa.serial,
      four_octets soa.refresh,
      four_octets soa.retry,
      four_octets soa.expire,
      four_octets soa.minimum,
    )

record_length : (r : PlainRecord) → length (record_octets r) ≡ length (name_octets r.owner) + 10 + length r.rdata
unfolding record_octets
record_length r =
    omega (
      arith,
      six (name_octets r.owner) (number_octets 2 r.rtype) (number_octets 2 r.class) (number_octets 4 r.ttl) (number_octets 2 (length r.rdata)) r.rdata,
      two_octets r.rtype,
      two_octets r.class,
      four_octets r.ttl,
      two_octets (length r.rdata),
    )

one_record : (r : PlainRecord) → length (records_octets (r ∷ [])) ≡ length (record_octets r)
unfolding records_octets
one_record r = ap length (append-nil (record_octets r))

pub whole_is_short : (id : ℕ) (origin : List (List ℕ)) → IsName origin → length (spelling (whole_request id origin)) ≤ FRAME_MAX
whole_is_short id origin name = omega (arith, request_length id origin 252 [], no_records, name.short)

pub newer_is_short : (id : ℕ) (origin : List (List ℕ)) (soa : Soa) → IsName origin → IsName soa.mname → IsName soa.rname → length (spelling (newer_request id origin soa)) ≤ FRAME_MAX
newer_is_short id origin soa name mname rname =
    omega (
      arith,
      request_length id origin 251 (soa_record origin soa ∷ []),
      one_record (soa_record origin soa),
      record_length (soa_record origin soa),
      soa_length soa,
      name.short,
      mname.short,
      rname.short,
    )

pub newer_if_short : {E : Type 0} (result : Result (List ℕ) E) (id : ℕ) (origin owner : List (List ℕ)) (soa : Soa) (r : PlainRecord) → IsName origin → IsName soa.mname → IsName soa.rname
    → r ≡ soa_record owner soa → owner ≡ origin → IfOk result (λ octets. octets ≡ spelling (request_message id origin 251 (r ∷ []))) → IfOk result (λ octets. length octets ≤ FRAME_MAX)
newer_if_short (Ok octets) id origin owner soa r name mname rname is_soa same is =
    let whole : octets ≡ spelling (newer_request id origin soa) =
    is ∙ ap (λ (x : PlainRecord). spelling (request_message id origin 251 (x ∷ []))) (is_soa ∙ ap (λ (o : List (List ℕ)). soa_record o soa) same) in
    omega (arith, ap length whole, newer_is_short id origin soa name mname rname)
newer_if_short (Err e) id origin owner soa r name mname rname is_soa same is = is
