-- The chain of aliases that an answer shows (RFC 1034, section 3.6.2), at each name of which rules are looked for.
use Rattle.std.specs.Prelude.{ℕ, zero, suc, Bool, ◌==◌, ◌&&◌, ◌||◌, if◌then◌else◌, List, [], ◌∷◌, ◌++◌, Option, Some, None, Ok, Err}
use Rattle.std.specs.List.{find, flat_map, list_any}
use Rattle.std.specs.Option.{option_to_list}
use Rattle.dns_name.specs.Labels.{Name}
use Rattle.dns_name.specs.Alike.{same_name}
use Rattle.dns_name.specs.Reading.{NameOutcome, name_at}
use Rattle.dns_record.specs.Record.{PlainRecord}
use Rattle.dns_record.specs.declared.rtype.TheConstants.{ANY, CNAME}
use Rattle.dns_message.specs.declared.question.Question.{Question}
use Rattle.upstream_link.specs.declared.aliases.TheConstants.{CHAIN_LIMIT}
use Rattle.upstream_link.specs.declared.fact.Fact.{Fact}
use Rattle.upstream_link.specs.declared.fact.Fact.TheVariants.{Answer, Broken}

abbrev pub name_read : NameOutcome → Option Name
name_read (Ok found) = Some found.0
name_read (Err fault) = None

-- the name that the data of a record begins with
abbrev pub name_in : PlainRecord → Option Name
name_in r = name_read (name_at r.rdata 0)

-- a CNAME record
abbrev pub is_alias : PlainRecord → Bool
is_alias r = r.rtype == CNAME

-- a CNAME record of this owner
abbrev pub is_alias_of : Name → PlainRecord → Bool
is_alias_of owner r = r.rtype == CNAME && same_name r.owner owner

-- the alias of a name: the first CNAME record of this owner
abbrev pub alias_of : List PlainRecord → Name → Option PlainRecord
alias_of records name = find (is_alias_of name) records

abbrev pub has_name : List Name → Name → Bool
has_name names name = list_any (same_name name) names

-- the name, unless it is one of those that there are
abbrev pub if_new : List Name → Option Name → Option Name
if_new names None = None
if_new names (Some name) = if has_name names name then None else Some name

abbrev pub unmet_target : List Name → Option PlainRecord → Option Name
unmet_target names None = None
unmet_target names (Some r) = if_new names (name_in r)

-- the name behind the last one of a chain of these names: the target of its alias, unless the chain has met it
abbrev pub next_name : List PlainRecord → List Name → Name →
    Option Name
next_name records names last = unmet_target names (alias_of records last)

abbrev pub chain_with : (List Name → Name → Option (List Name)) →
    List Name → Option Name → Option (List Name)
chain_with go names None = Some names
chain_with go names (Some next) = go (names ++ next ∷ []) next

-- the chain that goes on behind these names, of which this is the last, by at most so many names less one; None where it
-- would be longer
unfoldable pub chain_from : ℕ → List PlainRecord → List Name → Name →
    Option (List Name)
chain_from zero records names last = None
chain_from (suc left) records names last =
    chain_with (chain_from left records) names (next_name records names last)

-- the alias itself is asked for: the type is CNAME or ANY
abbrev pub asks_alias : ℕ → Bool
asks_alias qtype = qtype == CNAME || qtype == ANY

-- The names of the chain of aliases that an answer shows, from the name of the question on (RFC 1034, section 3.6.2). None if
-- there are more than CHAIN_LIMIT.
abbrev pub chain : Question → Fact → Option (List Name)
chain question (Broken why) = Some (question.name ∷ [])
chain question (Answer answer) =
    if asks_alias question.qtype then Some (question.name ∷ [])
    else chain_from CHAIN_LIMIT answer.answers (question.name ∷ []) question.name

-- The aliases of these names that an answer shows.
abbrev pub chain_aliases : List PlainRecord → List Name → List PlainRecord
chain_aliases records names = flat_map (λ name. option_to_list (alias_of records name)) names
