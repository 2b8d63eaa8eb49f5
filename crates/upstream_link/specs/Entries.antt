-- How what is kept beside facts is seen, and looked up.
use Rattle.std.specs.Prelude.{ℕ, ◌==◌, ◌&&◌, ◌||◌, Bool, true, false, if◌then◌else◌, List, [], ◌∷◌, map, Option, Some}
use Rattle.std.specs.List.{find, list_any}
use Rattle.dns_name.specs.Labels.{Name}
use Rattle.ip_prefix.specs.declared.Addr.{Addr}
use Rattle.dns_record.specs.declared.rtype.TheConstants.{A, AAAA}
use Rattle.dns_record.specs.declared.class.TheConstants.{IN}
use Rattle.dns_message.specs.declared.question.Question.{Question}
use Rattle.upstream_link.specs.declared.fact.Fact.{Fact}
use Rattle.upstream_link.specs.Chain.{has_name}
use Rattle.upstream_link.specs.Fact.{same_question}
use Rattle.upstream_link.specs.Facts.{PlainFacts, records_of}
use Rattle.upstream_link.specs.Known.{PlainKnown}
use Rattle.upstream_link.specs.Servers.{addresses_in}

-- the fact beside its question
abbrev pub entry_of : PlainKnown → Question × Fact
entry_of known = (known.question, known.fact)

abbrev pub entries_of : List PlainKnown → PlainFacts
entries_of all = map entry_of all

-- what is kept of the first fact about a question
abbrev pub known_about : List PlainKnown → Question → Option PlainKnown
known_about all question = find (λ k. same_question k.question question) all

-- a question for addresses
abbrev pub asks_addresses : Question → Bool
asks_addresses question = (question.qtype == A || question.qtype == AAAA) && question.qclass == IN

-- the name is in one of the lists
abbrev pub is_listed : List (List Name) → Name → Bool
is_listed lists name = list_any (λ list. has_name list name) lists

-- the addresses that a fact tells of its name, if the name is listed
abbrev pub addresses_by : List (List Name) → PlainKnown → List Addr
addresses_by lists known =
    if asks_addresses known.question && is_listed lists known.question.name
    then addresses_in known.question.name (records_of (Some known.fact)) else []

-- there is an element
abbrev pub has_some : {X : Type 0} → List X → Bool
has_some [] = false
has_some (x ∷ xs) = true
