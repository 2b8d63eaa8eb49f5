-- What a pool of octets and a list of nodes come to.
use Rattle.std.specs.Prelude.{◌≡◌, ℕ, Bool, List, [], ◌++◌, length, map, take, drop}
use Rattle.octet_trie.specs.Nodes.{Stored, subs_from, AreNodes}
use Rattle.octet_trie.specs.Plain.{plain}
use Rattle.octet_trie.specs.declared.node.Node.{Node}
use Rattle.packed_lists.specs.Octets.{StandsWhole}
use Rattle.trie_keys.specs.declared.marked.Marked.{Marked}

module _ {N M : Type 0} where
  abbrev pub stored : (M → Bool) → List ℕ → List (Node N M) → Stored (Marked N M)
  stored present octets nodes = record { octets = octets; subs = subs_from octets [] (map (plain present) nodes) }

  abbrev pub AreStored : (M → Bool) → List ℕ → List (Node N M) → Type 0
  AreStored present octets nodes = AreNodes octets [] (map (plain present) nodes)

-- the octets came behind the others, and begin at the place
pub record IsWritten {V : Type 0} (old new : Stored V) (octets : List ℕ) (place : ℕ) : Type 0 where
  pub more : List ℕ
  pub same : new ≡ record { octets = old.octets ++ more; subs = old.subs }
  pub stands : StandsWhole new.octets place (length octets)
  pub read : take (length octets) (drop place new.octets) ≡ octets
