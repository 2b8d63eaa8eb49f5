-- Copies of nodes among others.
use Rattle.std.specs.Prelude.{◌≡◌, ℕ, Bool, List, ◌++◌, map, take, drop}
use Rattle.std.specs.List.{AllByRecursion}
use Rattle.octet_trie.specs.Nodes.{PlainNode, Sub, Stored, stands, IsNode, Extends}
use Rattle.octet_trie.specs.Plain.{plain}
use Rattle.octet_trie.specs.declared.node.Node.{Node}
use Rattle.packed_lists.specs.Octets.{StandsWhole}
use Rattle.trie_keys.specs.declared.marked.Marked.{Marked}

-- a node stands for what another stands for among others
pub record IsCopied {V : Type 0} (source : Stored V) (n : PlainNode V) (old new : Stored V) (m : PlainNode V) : Type 0 where
  pub extends : Extends old new
  pub node : IsNode new m
  pub sub : stands new m ≡ stands source n

-- for what some nodes stand that are not stored yet
abbrev pub stands_all : {N M : Type 0} → (M → Bool) → Stored (Marked N M) → List (Node N M) → List (Sub (Marked N M))
stands_all present s nodes = map (λ n. stands s (plain present n)) nodes

abbrev pub AreAll : {N M : Type 0} → (M → Bool) → Stored (Marked N M) → List (Node N M) → Type 0
AreAll present s nodes = AllByRecursion (λ n. IsNode s (plain present n)) nodes

-- some nodes stand for these
pub record AreCopied {N M : Type 0} (present : M → Bool) (old new : Stored (Marked N M)) (copies : List (Node N M)) (subs : List (Sub (Marked N M))) : Type 0 where
  pub extends : Extends old new
  pub nodes : AreAll present new copies
  pub same : stands_all present new copies ≡ subs

-- the octets of a key begin at the place, and nodes are what they were
pub record IsKeyAt {V : Type 0} (old new : Stored V) (name : List ℕ) (size place : ℕ) : Type 0 where
  pub more : List ℕ
  pub same : new ≡ record { octets = old.octets ++ more; subs = old.subs }
  pub whole : StandsWhole new.octets place size
  pub read : take size (drop place new.octets) ≡ name
