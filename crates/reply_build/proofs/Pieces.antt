-- Replies that are written record by record.
use Rattle.std.proofs.Common.{◌≡◌, ℕ, ◌+◌, Bool, true, false, cond, List, [], ◌∷◌, ◌++◌, length, map, filter, drop, get_or, Some, refl, sym, ap, ◌∙◌, append_assoc, arith}
use Rattle.std.specs.Prelude.{◌<◌, ◌≤◌, OnOk, Result, Ok, Err}
use mir.Val.{bool_byte}
use Rattle.std.proofs.lemmas.List.{append-nil, at_drop_more, drop_all, length-append, length-map}
use Rattle.dns_name.specs.Labels.{IsName, Name, name_octets}
use Rattle.dns_name.specs.Wire.{labels_in}
use Rattle.dns_name.proofs.WireLemmas.{labels_in-octets}
use Rattle.dns_record.specs.declared.class.TheConstants.{IN}
use Rattle.dns_record.specs.declared.rtype.TheConstants.{CNAME}
use Rattle.dns_record.specs.Record.{PlainRecord}
use Rattle.dns_message.specs.declared.header.Header.{Header}
use Rattle.dns_message.specs.declared.request.Query.{Query}
use Rattle.dns_message.specs.Progress.{Writing, writing_after, writing_of, writing_start}
use Rattle.dns_message.specs.Request.{reply_edns}
use Rattle.dns_message.specs.Spelling.{opt_count}
use Rattle.dns_message.proofs.ProgressSteps.{writing_append, writing_none}
use Rattle.action_codec.specs.Local.{PlainLocal}
use Rattle.upstream_link.specs.Kept.{PlainAnswer, aged_answers}
use Rattle.reply_build.specs.Parts.{alias_reply, answers_of, asked_records, authority_of, bare_sections, rcode_of, rule_sections}
use Rattle.reply_build.specs.Reply.{HitPlace, Sections, alias_record, answer_sections, denial, is_asked, local_record, reply_header, reply_of, sections, soa_list}

-- ---- the sections of a reply

pub denied : (rcode : ℕ) (place : HitPlace) → rule_sections rcode place [] [] ≡ denial rcode place
denied rcode place = ap (λ (l : List PlainRecord). sections rcode l [] (place.soa ∷ [])) (append-nil place.kept)

abbrev begun : ℕ → Query → Header → ℕ → ℕ → ℕ → Writing
begun limit query h a u d = writing_start limit h (Some query.question) a u (d + opt_count (reply_edns 0 query.edns))

-- all records of the sections are written
reply_written : (limit : ℕ) (query : Query) (s : Sections) (h : Header) (a u d : ℕ) (w0 w : Writing)
    → h ≡ reply_header s.tc s.rcode query → a ≡ length s.answer → u ≡ length s.authority → d ≡ length s.additional
    → w0 ≡ begun limit query h a u d → w ≡ writing_after w0 (s.answer ++ s.authority ++ s.additional) → w ≡ writing_of limit (reply_of query s)
reply_written limit query s h a u d w0 w eh ea eu ed e0 ew =
    ew ∙ ap (λ (v : Writing). writing_after v (s.answer ++ s.authority ++ s.additional)) (e0 ∙ rw (eh, ea, eu, ed) refl)

pub bare_written : (limit : ℕ) (query : Query) (tc : Bool) (rcode : ℕ) (h : Header) (w : Writing) → h ≡ reply_header tc rcode query → w ≡ begun limit query h 0 0 0 → w ≡ writing_of limit (reply_of query (bare_sections tc rcode))
bare_written limit query tc rcode h w eh e = reply_written limit query (bare_sections tc rcode) h 0 0 0 w w eh refl refl refl e (sym (writing_none w))

pub passed_written : (limit : ℕ) (query : Query) (answer : PlainAnswer) (h : Header) (a u : ℕ) (w0 w : Writing) → h ≡ reply_header false answer.rcode query → a ≡ length answer.answers → u ≡ length (soa_list answer)
    → w0 ≡ begun limit query h a u 0 → w ≡ writing_after w0 (aged_answers answer ++ soa_list answer) → w ≡ writing_of limit (reply_of query (answer_sections answer))
passed_written limit query answer h a u w0 w eh ea eu e0 ew =
    reply_written limit query (answer_sections answer) h a u 0 w0 w eh (ea ∙ sym (length-map answer.answers _)) eu refl e0
    (ew ∙ ap (writing_after w0) (sym (append-nil (aged_answers answer ++ soa_list answer))))

pub rule_written : (limit : ℕ) (query : Query) (rcode : ℕ) (place : HitPlace) (rows : List PlainRecord) (h : Header) (count kept asked : ℕ) (w0 w1 w2 w : Writing) → h ≡ reply_header false rcode query
    → count ≡ kept + asked → kept ≡ length place.kept → asked ≡ length rows → w0 ≡ begun limit query h count 0 1
    → w1 ≡ writing_after w0 place.kept → w2 ≡ writing_after w1 rows → w ≡ writing_after w2 (place.soa ∷ []) → w ≡ writing_of limit (reply_of query (rule_sections rcode place rows []))
rule_written limit query rcode place rows h count kept asked w0 w1 w2 w eh ec ek ea e0 e1 e2 ew =
    let answers = place.kept ++ rows in
    let two : w2 ≡ writing_after w0 answers = e2 ∙ ap (λ (v : Writing). writing_after v rows) e1 ∙ writing_append w0 place.kept rows in
    let all : w ≡ writing_after w0 (answers ++ place.soa ∷ []) = ew ∙ ap (λ (v : Writing). writing_after v (place.soa ∷ [])) two ∙ writing_append w0 answers (place.soa ∷ []) in
    reply_written limit query (rule_sections rcode place rows []) h count 0 1 w0 w eh (omega (arith, ec, ek, ea, length-append place.kept rows)) refl refl e0
    (all ∙ ap (λ (l : List PlainRecord). writing_after w0 (l ++ place.soa ∷ [])) (sym (append-nil answers)))

regrouped : (kept answers soas : List PlainRecord) (alias : PlainRecord) → (kept ++ alias ∷ []) ++ (answers ++ soas) ≡ (kept ++ alias ∷ answers) ++ soas
regrouped kept answers soas alias = append_assoc kept (alias ∷ []) (answers ++ soas) ∙ sym (append_assoc kept (alias ∷ answers) soas)

pub alias_written : (limit : ℕ) (query : Query) (place : HitPlace) (alias : PlainRecord) (rcode : ℕ) (answers soas : List PlainRecord) (h : Header) (count kept asked authorities : ℕ) (w0 w1 w2 w3 w : Writing)
    → h ≡ reply_header false rcode query → count ≡ kept + 1 + asked → kept ≡ length place.kept → asked ≡ length answers → authorities ≡ length soas
    → w0 ≡ begun limit query h count authorities 1 → w1 ≡ writing_after w0 place.kept → w2 ≡ writing_after w1 (alias ∷ []) → w3 ≡ writing_after w2 (answers ++ soas) → w ≡ writing_after w3 (place.soa ∷ [])
    → w ≡ writing_of limit (reply_of query (rule_sections rcode place (alias ∷ answers) soas))
alias_written limit query place alias rcode answers soas h count kept asked authorities w0 w1 w2 w3 w eh ec ek ea eu e0 e1 e2 e3 ew =
    let two : w2 ≡ writing_after w0 (place.kept ++ alias ∷ []) = e2 ∙ ap (λ (v : Writing). writing_after v (alias ∷ [])) e1 ∙ writing_append w0 place.kept (alias ∷ []) in
    let three : w3 ≡ writing_after w0 ((place.kept ++ alias ∷ answers) ++ soas) =
    e3 ∙ ap (λ (v : Writing). writing_after v (answers ++ soas)) two ∙ writing_append w0 (place.kept ++ alias ∷ []) (answers ++ soas) ∙ ap (writing_after w0) (regrouped place.kept answers soas alias) in
    let all : w ≡ writing_after w0 (((place.kept ++ alias ∷ answers) ++ soas) ++ place.soa ∷ []) =
    ew ∙ ap (λ (v : Writing). writing_after v (place.soa ∷ [])) three ∙ writing_append w0 ((place.kept ++ alias ∷ answers) ++ soas) (place.soa ∷ []) in
    reply_written limit query (rule_sections rcode place (alias ∷ answers) soas) h count authorities 1 w0 w eh (omega (arith, ec, ek, ea, length-append place.kept (alias ∷ answers))) eu refl e0 all

-- records of both lists, one list behind the other
pub both_written : {X Y : Type 0} (result : Result X Y) (w0 w1 w : Writing) (a b : List PlainRecord) → w1 ≡ writing_after w0 a → OnOk result (w ≡ writing_after w1 b) → OnOk result (w ≡ writing_after w0 (a ++ b))
both_written (Ok x) w0 w1 w a b e1 e = e ∙ ap (λ (v : Writing). writing_after v b) e1 ∙ writing_append w0 a b
both_written (Err y) w0 w1 w a b e1 e = e

-- ---- records where they lie

abbrev record_of : Name → ℕ → ℕ → ℕ → List ℕ → PlainRecord
record_of owner rtype class ttl rdata = record { owner = owner; rtype = rtype; class = class; ttl = ttl; rdata = rdata }

pub ref_seen : (x : PlainRecord) (octets : List ℕ) (owner : Name) (rtype class ttl : ℕ) (rdata : List ℕ) → x ≡ record_of (labels_in octets) rtype class ttl rdata → octets ≡ name_octets owner → IsName owner → x ≡ record_of owner rtype class ttl rdata
ref_seen x octets owner rtype class ttl rdata e wire name = e ∙ ap (λ (n : Name). record_of n rtype class ttl rdata) (labels_in-octets octets owner wire name)

pub alias_seen : (x : PlainRecord) (octets rdata : List ℕ) (owner target : Name) (ttl : ℕ) → x ≡ record_of (labels_in octets) CNAME IN ttl rdata → octets ≡ name_octets owner → IsName owner → rdata ≡ name_octets target → x ≡ alias_record owner ttl target
alias_seen x octets rdata owner target ttl e wire name target_is =
    ref_seen x octets owner CNAME IN ttl rdata e wire name ∙ ap (λ (l : List ℕ). record_of owner CNAME IN ttl l) target_is

-- ---- the rows that are asked for

asked_by : (owner : Name) (b : Bool) (row : PlainLocal) (rows : List PlainLocal) → map (local_record owner) (cond b (row ∷ rows) rows) ≡ map (local_record owner) (cond b (row ∷ []) []) ++ map (local_record owner) rows
asked_by owner true row rows = refl
asked_by owner false row rows = refl

asked_first : (owner : Name) (qtype : ℕ) (row : PlainLocal) (rows : List PlainLocal) → asked_records owner qtype (row ∷ rows) ≡ asked_records owner qtype (row ∷ []) ++ asked_records owner qtype rows
asked_first owner qtype row rows = asked_by owner (is_asked qtype row) row (filter (is_asked qtype) rows)

pub asked_more : (owner : Name) (qtype : ℕ) (rows : List PlainLocal) (i : ℕ) (row : PlainLocal) (w next whole : Writing) → i < length rows → next ≡ writing_after w (asked_records owner qtype (get_or rows i row ∷ []))
    → writing_after w (asked_records owner qtype (drop i rows)) ≡ whole → writing_after next (asked_records owner qtype (drop (i + 1) rows)) ≡ whole
asked_more owner qtype rows i row w next whole lt e h =
    let one = asked_records owner qtype (get_or rows i row ∷ []) in
    let others = asked_records owner qtype (drop (i + 1) rows) in
    ap (λ (v : Writing). writing_after v others) e
    ∙ writing_append w one others
    ∙ ap (writing_after w) (sym (at_drop_more (asked_records owner qtype) rows i row lt ∙ asked_first owner qtype (get_or rows i row) (drop (i + 1) rows)))
    ∙ h

pub asked_all : (owner : Name) (qtype : ℕ) (rows : List PlainLocal) (i : ℕ) (w whole : Writing) → length rows ≤ i → writing_after w (asked_records owner qtype (drop i rows)) ≡ whole → w ≡ whole
asked_all owner qtype rows i w whole le h = sym (ap (λ (l : List PlainLocal). writing_after w (asked_records owner qtype l)) (drop_all i rows le) ∙ writing_none w) ∙ h

pub one_asked : (owner : Name) (qtype : ℕ) (row : PlainLocal) (w next : Writing) → is_asked qtype row ≡ true → next ≡ writing_after w (local_record owner row ∷ []) → next ≡ writing_after w (asked_records owner qtype (row ∷ []))
one_asked owner qtype row w next t e = rw t e

pub none_asked : (owner : Name) (qtype : ℕ) (row : PlainLocal) (w : Writing) → is_asked qtype row ≡ false → w ≡ writing_after w (asked_records owner qtype (row ∷ []))
none_asked owner qtype row w f = rw f (sym (writing_none w))

one_of : (b : Bool) (row : PlainLocal) (rows : List PlainLocal) → length (cond b (row ∷ rows) rows) ≡ cond b 1 0 + length rows
one_of true row rows = omega arith
one_of false row rows = omega arith

pub byte_of : (b : Bool) → bool_byte b ≡ cond b 1 0
byte_of true = refl
byte_of false = refl

-- one row more is counted
pub counted : (f : PlainLocal → Bool) (rows : List PlainLocal) (i count one whole : ℕ) (row : PlainLocal) → i < length rows → get_or rows i row ≡ row → one ≡ cond (f row) 1 0
    → count + length (filter f (drop i rows)) ≡ whole → count + one + length (filter f (drop (i + 1) rows)) ≡ whole
counted f rows i count one whole row lt here e h =
    let first : length (filter f (drop i rows)) ≡ cond (f row) 1 0 + length (filter f (drop (i + 1) rows)) =
    at_drop_more (λ l. length (filter f l)) rows i row lt ∙ ap (λ r. length (filter f (r ∷ drop (i + 1) rows))) here ∙ one_of (f row) row (filter f (drop (i + 1) rows)) in
    omega (arith, first, e, h)

pub least : (b : Bool) (one : ℕ) → one ≡ cond b 1 0 → one ≤ 1
least true one e = omega arith
least false one e = omega arith
