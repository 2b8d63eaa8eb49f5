-- What code keeps beside a fact, so that no turn reads it again: the servers that an NS answer names, in order.
use Rattle.std.specs.Prelude.{◌≡◌, ◌↔◌, ℕ, ◌==◌, if◌then◌else◌, All, List, [], Some}
use Rattle.std.specs.List.{Contains, flat_map}
use Rattle.std.specs.List.Sorted.{IsStrictlySortedBy}
use Rattle.dns_name.specs.Labels.{lowered, Name}
use Rattle.dns_name.specs.Order.{canonical_order}
use Rattle.dns_record.specs.declared.rtype.TheConstants.{NS}
use Rattle.dns_message.specs.declared.question.Question.{Question}
use Rattle.upstream_link.specs.declared.fact.Fact.{Fact}
use Rattle.upstream_link.specs.Facts.{records_of}
use Rattle.upstream_link.specs.Servers.{servers_in}

-- the same elements, whatever their order and number
abbrev pub HaveSameMembers : {X : Type 0} → List X → List X → Type 0
HaveSameMembers {X} xs ys = (x : X) → Contains xs x ↔ Contains ys x

-- names in canonical order, each once, in lower case
pub record AreInOrder (names : List Name) : Type 0 where
  pub sorted : IsStrictlySortedBy canonical_order names
  pub lower : All (λ name. lowered name ≡ name) names

-- the servers that a fact names: an answer to an NS question, in the records of the name that was asked for
abbrev pub named_servers : Question → Fact → List Name
named_servers question fact =
    if question.qtype == NS then servers_in question.name (records_of (Some fact)) else []

-- a fact beside its question, with its servers
pub record PlainKnown : Type 0 where
  pub question : Question
  pub fact : Fact
  pub servers : List Name

-- the servers that are kept are those that the fact names
pub record HasServers (known : PlainKnown) : Type 0 where
  pub order : AreInOrder known.servers
  pub same : HaveSameMembers known.servers (named_servers known.question known.fact)

-- lists of servers, each in order, that together have these names
pub record AreListsOf (lists : List (List Name)) (names : List Name) : Type
    0 where
  pub order : All AreInOrder lists
  pub same : HaveSameMembers (flat_map (λ list. list) lists) names
