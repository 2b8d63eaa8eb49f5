-- A message that is written record by record, up to a limit.
use Rattle.std.proofs.Common.{◌≡◌, ℕ, ◌+◌, ◌<◌, ◌≤◌, nat_lt, ltb, Bool, true, false, ◌⊎◌, inl, inr, List, [], ◌∷◌, ◌++◌, length, map, drop, get_or, Option, Result, Ok, Err, refl, sym, ap, ◌∙◌, subst, arith, length-append}
use Rattle.std.specs.Prelude.{IfOk}
use Rattle.std.proofs.lemmas.Bool.{cond_both, lt-ltb, ltb-true}
use Rattle.std.proofs.lemmas.List.{drop_all, drop_more}
use Rattle.packed_names.specs.Places.{Place, compressed_octets}
use Rattle.dns_record.specs.Number.{number_octets}
use Rattle.dns_record.specs.Record.{PlainRecord}
use Rattle.dns_message.specs.declared.edns.Edns.{Edns}
use Rattle.dns_message.specs.declared.header.Header.{Header}
use Rattle.dns_message.specs.declared.message.Message.{Message}
use Rattle.dns_message.specs.declared.question.Question.{Question}
use Rattle.dns_message.specs.Aged.{aged}
use Rattle.dns_message.specs.Compressed.{Draft, compressed_message, compressed_within, message_start, with_record, with_records}
use Rattle.dns_message.specs.Limit.{truncated_octets, within_limit}
use Rattle.dns_message.specs.Progress.{Progress, Writing, beyond, draft, finished, kept_within, progress_after, progress_of, progress_with, within, writing_after, writing_of, writing_start}
use Rattle.dns_message.specs.Spelling.{opt_count, opt_octets}

-- records in two parts
progress_append : (limit : ℕ) (p : Progress) (a b : List PlainRecord) → progress_after limit (progress_after limit p a) b ≡ progress_after limit p (a ++ b)
unfolding progress_after
progress_append limit p [] b = refl
progress_append limit p (r ∷ a) b = progress_append limit (progress_with limit p r) a b

abbrev pub writing : ℕ → Progress → Writing
writing limit p = record { limit = limit; progress = p }

-- ---- the end

pub beyond_stays : (limit : ℕ) (rs : List PlainRecord) → progress_after limit beyond rs ≡ beyond
unfolding progress_after
beyond_stays limit [] = refl
beyond_stays limit (r ∷ rs) = beyond_stays limit rs

pieces_grow : (before owner a b c d rdata : List ℕ) → length before ≤ length (before ++ owner ++ a ++ b ++ c ++ d ++ rdata)
pieces_grow before owner a b c d rdata =
    omega (
      arith,
      length-append (before ++ owner ++ a ++ b ++ c ++ d) rdata,
      length-append (before ++ owner ++ a ++ b ++ c) d,
      length-append (before ++ owner ++ a ++ b) c,
      length-append (before ++ owner ++ a) b,
      length-append (before ++ owner) a,
      length-append before owner,
    )

record_grows : (d : Draft) (r : PlainRecord) → length d.octets ≤ length (with_record d r).octets
unfolding with_record
record_grows d r = pieces_grow d.octets (compressed_octets d.places r.owner) (number_octets 2 r.rtype) (number_octets 2 r.class) (number_octets 4 r.ttl) _ _

records_grow : (d : Draft) (rs : List PlainRecord) → length d.octets ≤ length (with_records d rs).octets
unfolding with_records
records_grow d [] = omega arith
records_grow d (r ∷ rs) =
    let one = record_grows d r in
    let others = records_grow (with_record d r) rs in
    omega (arith, one, others)

-- all records are written, or so many that the message is longer than the limit
abbrev Reaches : ℕ → Progress → Draft → Type 0
Reaches limit p d = (p ≡ within d) ⊎ ((p ≡ beyond) × (limit < length d.octets))

reaches : (limit : ℕ) (d : Draft) (rs : List PlainRecord) → Reaches limit (progress_after limit (within d) rs) (with_records d rs)
unfolding progress_after with_records
reaches limit d [] = inl refl
reaches limit d (r ∷ rs) =
    let next = with_record d r in
    cond_both (ltb limit (length next.octets)) beyond (within next) (λ (p : Progress). Reaches limit (progress_after limit p rs) (with_records next rs))
    (λ t.
    let longer : limit < length next.octets = ltb-true limit (length next.octets) t in
    let grown = records_grow next rs in
    inr (beyond_stays limit rs, omega (arith, longer, grown)))
    (λ f. reaches limit next rs)

cut : (limit : ℕ) (whole other : List ℕ) → limit < length whole → other ≡ within_limit limit whole other
cut limit whole other lt =
    let longer : ltb limit (length whole) ≡ true = lt-ltb limit (length whole) lt in
    rw longer refl

finished_by : (limit : ℕ) (h : Header) (q : Option Question) (e : Option Edns) (p : Progress) (d : Draft) → Reaches limit p d → finished limit h q e p ≡ within_limit limit (d.octets ++ opt_octets e) (truncated_octets h q e)
finished_by limit h q e p d (inl is) = ap (finished limit h q e) is
finished_by limit h q e p d (inr is) = ap (finished limit h q e) is.0 ∙ cut limit (d.octets ++ opt_octets e) (truncated_octets h q e) (omega (arith, is.1, length-append d.octets (opt_octets e)))

-- a message is finished as it is written within the limit
progress_finished : (limit : ℕ) (m : Message) → finished limit m.header m.question m.edns (progress_after limit (within (message_start 0 m)) (m.answer ++ m.authority ++ m.additional)) ≡ compressed_within limit m
unfolding compressed_message
progress_finished limit m =
    let records = m.answer ++ m.authority ++ m.additional in
    let start = message_start 0 m in
    finished_by limit m.header m.question m.edns (progress_after limit (within start) records) (with_records start records) (reaches limit start records)

-- the finished message, of a writer that has written all of it
pub message_finished : {E : Type 0} (result : Result (List ℕ) E) (w : Writing) (limit : ℕ) (m : Message) (h : Header) (q : Option Question) (e : Option Edns) → w ≡ writing_of limit m → h ≡ m.header → q ≡ m.question → e ≡ m.edns
    → IfOk result (λ octets. octets ≡ finished w.limit h q e w.progress) → IfOk result (λ octets. octets ≡ compressed_within limit m)
message_finished (Ok octets) w limit m h q e ew eh eq ee is = is ∙ rw (ew, eh, eq, ee) (progress_finished limit m)
message_finished (Err f) w limit m h q e ew eh eq ee is = is

-- ---- one record

-- nothing is written behind what is longer than the limit
pub beyond_more : (limit : ℕ) (octets : List ℕ) (places : List Place) (b : Bool) (w : Writing) (r : PlainRecord) → writing limit (progress_of octets places b) ≡ w → b ≡ true → w ≡ writing_after w (r ∷ [])
unfolding progress_after
beyond_more limit octets places true w r e t = subst (λ (v : Writing). v ≡ writing_after v (r ∷ [])) e refl
beyond_more limit octets places false w r e t = absurd cc

pub record_written : (limit len : ℕ) (octets octets2 : List ℕ) (places places2 : List Place) (b : Bool) (w : Writing) (r : PlainRecord) → writing limit (progress_of octets places b) ≡ w → b ≡ false
    → draft octets2 places2 ≡ with_record (draft octets places) r → len ≡ length octets2 → writing limit (progress_of octets2 places2 (nat_lt limit len)) ≡ writing_after w (r ∷ [])
unfolding progress_after
record_written limit len octets octets2 places places2 b w r e f is long =
    let start : w ≡ writing limit (within (draft octets places)) = sym e ∙ ap (λ (c : Bool). writing limit (progress_of octets places c)) f in
    ap (λ (k : ℕ). writing limit (progress_of octets2 places2 (nat_lt limit k))) long
    ∙ ap (λ (d : Draft). writing limit (kept_within limit d)) is
    ∙ sym (ap (λ (v : Writing). writing_after v (r ∷ [])) start)

-- ---- records one after another

pub writing_append : (w : Writing) (a b : List PlainRecord) → writing_after (writing_after w a) b ≡ writing_after w (a ++ b)
writing_append w a b = ap (λ (p : Progress). writing w.limit p) (progress_append w.limit w.progress a b)

pub writing_none : (w : Writing) → writing_after w [] ≡ w
unfolding progress_after
writing_none w = refl

-- one record more, and then the others
pub writing_first : (w next whole : Writing) (r : PlainRecord) (rs : List PlainRecord) → next ≡ writing_after w (r ∷ []) → writing_after w (r ∷ rs) ≡ whole → writing_after next rs ≡ whole
writing_first w next whole r rs step h = ap (λ (v : Writing). writing_after v rs) step ∙ writing_append w (r ∷ []) rs ∙ h

pub writing_more : (w next whole : Writing) (records : List PlainRecord) (i : ℕ) (d : PlainRecord) → i < length records → next ≡ writing_after w (get_or records i d ∷ []) → writing_after w (drop i records) ≡ whole → writing_after next (drop (i + 1) records) ≡ whole
writing_more w next whole records i d lt step h =
    writing_first w next whole (get_or records i d) (drop (i + 1) records) step (sym (ap (writing_after w) (drop_more records i d lt)) ∙ h)

pub writing_done : (w whole : Writing) (records : List PlainRecord) (i : ℕ) → length records ≤ i → writing_after w (drop i records) ≡ whole → w ≡ whole
writing_done w whole records i le h = sym (ap (writing_after w) (drop_all i records le) ∙ writing_none w) ∙ h

-- records that came some seconds ago
pub aged_more : (seconds : ℕ) (w next whole : Writing) (r : PlainRecord) (all rs : List PlainRecord) → all ≡ r ∷ rs → next ≡ writing_after w (aged seconds r ∷ []) → writing_after w (map (aged seconds) all) ≡ whole → writing_after next (map (aged seconds) rs) ≡ whole
aged_more seconds w next whole r all rs is step h = writing_first w next whole (aged seconds r) (map (aged seconds) rs) step (sym (ap (λ (l : List PlainRecord). writing_after w (map (aged seconds) l)) is) ∙ h)

pub aged_done : (seconds : ℕ) (w whole : Writing) (all : List PlainRecord) → all ≡ [] → writing_after w (map (aged seconds) all) ≡ whole → w ≡ whole
aged_done seconds w whole all is h = sym (ap (λ (l : List PlainRecord). writing_after w (map (aged seconds) l)) is ∙ writing_none w) ∙ h

-- the three sections
pub sections_written : (limit : ℕ) (m : Message) (w0 w1 w2 w3 : Writing) (q : Option Question) (e : ℕ) (answer authority additional : List PlainRecord) → answer ≡ m.answer → authority ≡ m.authority → additional ≡ m.additional → q ≡ m.question → e ≡ opt_count m.edns
    → w0 ≡ writing_start limit m.header q (length answer) (length authority) (length additional + e)
    → w1 ≡ writing_after w0 answer → w2 ≡ writing_after w1 authority → w3 ≡ writing_after w2 additional → w3 ≡ writing_of limit m
sections_written limit m w0 w1 w2 w3 q e answer authority additional ea eu ed eq ee e0 e1 e2 e3 =
    e3
    ∙ ap (λ (w : Writing). writing_after w additional) (e2 ∙ ap (λ (w : Writing). writing_after w authority) (e1 ∙ ap (λ (w : Writing). writing_after w answer) e0))
    ∙ ap (λ (w : Writing). writing_after w additional) (writing_append (writing_start limit m.header q (length answer) (length authority) (length additional + e)) answer authority)
    ∙ writing_append (writing_start limit m.header q (length answer) (length authority) (length additional + e)) (answer ++ authority) additional
    ∙ rw (ea, eu, ed, eq, ee) refl
