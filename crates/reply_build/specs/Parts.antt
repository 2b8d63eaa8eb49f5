-- What a reply is made of, as plain values.
use Rattle.std.specs.Prelude.{ℕ, Bool, List, [], ◌∷◌, ◌++◌, map, filter, Option, Some, None, option_copied}
use Rattle.dns_name.specs.Labels.{Name}
use Rattle.dns_record.specs.Record.{PlainRecord}
use Rattle.dns_message.specs.declared.request.Query.{Query}
use Rattle.action_codec.specs.Local.{PlainLocal}
use Rattle.upstream_link.specs.Kept.{PlainAnswer, aged_answers}
use Rattle.reply_build.specs.declared.parts.Decision.{Decision}
use Rattle.reply_build.specs.declared.parts.Decision.TheVariants.{Needs, Gives, Silent}
use Rattle.reply_build.specs.declared.parts.ReplyParts.{ReplyParts}
use Rattle.reply_build.specs.declared.parts.ReplyParts.TheVariants.{Bare, Passed, ByRule, ByAlias}
use Rattle.reply_build.specs.Reply.{HitPlace, ReplyOutcome, Sections, needs, gives, silent, alias_record, answer_sections, is_asked, local_record, sections, soa_list}
use Rattle.reply_build.specs.Seen.{place_seen}

-- no records
abbrev pub bare_sections : Bool → ℕ → Sections
bare_sections tc rcode =
    record { tc = tc; rcode = rcode; answer = []; authority = []; additional = [] }

-- a reply by a rule: these answers behind the aliases that led to its place, this authority, and the SOA record of its zone
abbrev pub rule_sections : ℕ → HitPlace → List PlainRecord → List PlainRecord → Sections
rule_sections rcode place answers authority =
    sections rcode (place.kept ++ answers) authority (place.soa ∷ [])

-- the local data that are asked for, as records of this owner
abbrev pub asked_records : Name → ℕ → List PlainLocal → List PlainRecord
asked_records owner qtype rows = map (local_record owner) (filter (is_asked qtype) rows)

abbrev pub asked_of : Name → ℕ → Option (List PlainLocal) → List PlainRecord
asked_of owner qtype None = []
asked_of owner qtype (Some rows) = asked_records owner qtype rows

abbrev pub rcode_of : Option PlainAnswer → ℕ
rcode_of None = 0
rcode_of (Some answer) = answer.rcode

abbrev pub answers_of : Option PlainAnswer → List PlainRecord
answers_of None = []
answers_of (Some answer) = aged_answers answer

abbrev pub authority_of : Option PlainAnswer → List PlainRecord
authority_of None = []
authority_of (Some answer) = soa_list answer

-- a reply by a rule that is an alias to this target, with what is known of the target
abbrev pub alias_reply : HitPlace → ℕ → Name → Option PlainAnswer → Sections
alias_reply place ttl target answer =
    rule_sections (rcode_of answer) place
    (alias_record place.name ttl target ∷ answers_of answer) (authority_of answer)

-- what the parts say as a reply to a query
abbrev pub parts_seen : Query → ReplyParts → Sections
parts_seen query (Bare tc rcode) = bare_sections tc rcode
parts_seen query (Passed answer) = answer_sections answer.now
parts_seen query (ByRule rcode place rows) =
    rule_sections rcode (place_seen place.now)
    (asked_of place.now.name.now query.question.qtype (option_copied rows)) []
parts_seen query (ByAlias place ttl target answer) =
    alias_reply (place_seen place.now) ttl target (option_copied answer)

abbrev pub decision_seen : Query → Decision → ReplyOutcome
decision_seen query (Needs question) = needs question
decision_seen query (Gives parts) = gives (parts_seen query parts)
decision_seen query Silent = silent
