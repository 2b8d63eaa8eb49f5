-- What a message with its names compressed begins with.
use Rattle.std.proofs.Common.{◌≡◌, ◌≤◌, ℕ, ◌+◌, List, [], ◌∷◌, ◌++◌, length, take, refl, ap, ◌∙◌, append_assoc, arith, length-append}
use Rattle.std.proofs.lemmas.List.{take-append-le, take_at}
use Rattle.dns_record.specs.Record.{PlainRecord}
use Rattle.dns_message.specs.declared.message.Message.{Message}
use Rattle.dns_message.specs.Compressed.{Draft, compressed_message, message_start, with_record, with_records}
use Rattle.dns_message.specs.Spelling.{header_octets, opt_count, opt_octets, question_count, question_octets}
use Rattle.dns_message.proofs.Limits.{length-header}

six_pieces : (n : ℕ) (before a b c d e f : List ℕ) → n ≤ length before → take n (((((((before ++ a) ++ b) ++ c) ++ d) ++ e) ++ f)) ≡ take n before
six_pieces n before a b c d e f le =
    let whole : ((((((before ++ a) ++ b) ++ c) ++ d) ++ e) ++ f) ≡ before ++ (a ++ (b ++ (c ++ (d ++ (e ++ f))))) = simp append_assoc in
    ap (take n) whole ∙ take-append-le n before (a ++ (b ++ (c ++ (d ++ (e ++ f))))) le

six_grow : (n : ℕ) (before a b c d e f : List ℕ) → n ≤ length before → n ≤ length (((((((before ++ a) ++ b) ++ c) ++ d) ++ e) ++ f))
six_grow n before a b c d e f le =
    let whole : ((((((before ++ a) ++ b) ++ c) ++ d) ++ e) ++ f) ≡ before ++ (a ++ (b ++ (c ++ (d ++ (e ++ f))))) = simp append_assoc in
    omega (arith, le, ap length whole, length-append before (a ++ (b ++ (c ++ (d ++ (e ++ f))))))

record_front : (n : ℕ) (d : Draft) (r : PlainRecord) → n ≤ length d.octets → take n (with_record d r).octets ≡ take n d.octets
unfolding with_record
record_front n d r le = six_pieces n d.octets _ _ _ _ _ _ le

record_grown : (n : ℕ) (d : Draft) (r : PlainRecord) → n ≤ length d.octets → n ≤ length (with_record d r).octets
unfolding with_record
record_grown n d r le = six_grow n d.octets _ _ _ _ _ _ le

records_grown : (n : ℕ) (d : Draft) (rs : List PlainRecord) → n ≤ length d.octets → n ≤ length (with_records d rs).octets
unfolding with_records
records_grown n d [] le = le
records_grown n d (r ∷ rs) le = records_grown n (with_record d r) rs (record_grown n d r le)

records_front : (n : ℕ) (d : Draft) (rs : List PlainRecord) → n ≤ length d.octets → take n (with_records d rs).octets ≡ take n d.octets
unfolding with_records
records_front n d [] le = refl
records_front n d (r ∷ rs) le = records_front n (with_record d r) rs (record_grown n d r le) ∙ record_front n d r le

pub compressed_front : (m : Message) (z : ℕ) → take 12 (compressed_message z m) ≡ header_octets z m.header (question_count m.question) (length m.answer) (length m.authority) (length m.additional + opt_count m.edns)
unfolding compressed_message
compressed_front m z =
    let start = message_start z m in
    let rs = m.answer ++ m.authority ++ m.additional in
    let header = header_octets z m.header (question_count m.question) (length m.answer) (length m.authority) (length m.additional + opt_count m.edns) in
    let twelve : length header ≡ 12 = length-header z m.header (question_count m.question) (length m.answer) (length m.authority) (length m.additional + opt_count m.edns) in
    let long : 12 ≤ length start.octets = omega (arith, twelve, length-append header (question_octets m.question)) in
    take-append-le 12 (with_records start rs).octets (opt_octets m.edns) (records_grown 12 start rs long)
    ∙ records_front 12 start rs long
    ∙ take_at header (question_octets m.question) 12 twelve
