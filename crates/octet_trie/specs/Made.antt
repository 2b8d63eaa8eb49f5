-- Nodes that are made of entries.
use Rattle.std.specs.Prelude.{◌≡◌, ℕ, ◌<◌, ◌≤◌, Bool, Option, Some, None, List, ◌++◌, length, take}
use Rattle.octet_trie.specs.Copies.{stands_all, AreAll}
use Rattle.octet_trie.specs.ListKeys.{symbols}
use Rattle.octet_trie.specs.Nodes.{PlainNode, Stored, name_of, joined, stands, with_value, IsKid, AreKids, IsNode, Extends}
use Rattle.octet_trie.specs.declared.node.Node.{Node}
use Rattle.trie_keys.specs.declared.marked.Marked.{Marked}

-- how many values there are
abbrev pub some_count : {X : Type 0} → Option X → ℕ
some_count None = 0
some_count (Some x) = 1

-- the node with a value there, if there is one
abbrev pub with_own : {V : Type 0} → PlainNode V → Bool → Option V → PlainNode V
with_own n wild None = n
with_own n wild (Some v) = with_value n wild v

-- a node stands for these entries, and its key begins with some octets
pub record IsMade {V : Type 0} (old new : Stored V) (top : List ℕ) (symbol : ℕ) (entries : List (List ℕ × V)) (m : PlainNode V) : Type 0 where
  pub extends : Extends old new
  pub node : IsNode new m
  pub symbol_is : m.symbol ≡ symbol
  pub small : m.symbol < 256
  pub begins : take (length top) (name_of new.octets m) ≡ top
  pub list : (stands new m).list ≡ entries

-- a node under a name stands for the first of some entries, and the others are behind
pub record IsKidMade {V : Type 0} (old new : Stored V) (name : List ℕ) (low : ℕ) (entries behind : List (List ℕ × V)) (m : PlainNode V) : Type 0 where
  pub extends : Extends old new
  pub node : IsNode new m
  pub kid : IsKid (symbols name) (stands new m)
  pub rises : low ≤ m.symbol
  pub list : (stands new m).list ++ behind ≡ entries

-- nodes under a name stand for the first of some entries, and the others are behind
pub record AreKidsMade {N M : Type 0} (present : M → Bool) (old new : Stored (Marked N M)) (name : List ℕ) (entries behind : List (List ℕ × Marked N M)) (kids : List (Node N M)) : Type 0 where
  pub extends : Extends old new
  pub nodes : AreAll present new kids
  pub under : AreKids (symbols name) 0 (stands_all present new kids)
  pub list : joined (stands_all present new kids) ++ behind ≡ entries
