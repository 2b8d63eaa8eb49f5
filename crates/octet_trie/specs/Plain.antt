-- A node's values, which are there where their marks say so.
use Rattle.std.specs.Prelude.{Bool, cond, Option, Some, None}
use Rattle.octet_trie.specs.Nodes.{PlainNode}
use Rattle.octet_trie.specs.declared.node.Node.{Node}
use Rattle.trie_keys.specs.declared.marked.Marked.{Marked}

module _ {N M : Type 0} where
  abbrev pub if_present : (M → Bool) → N → M → Option (Marked N M)
  if_present present value mark = cond (present mark) (Some (record { value = value; mark = mark })) None

  abbrev pub plain : (M → Bool) → Node N M → PlainNode (Marked N M)
  plain present n = record {
    key = n.key;
    len = n.len;
    symbol = n.symbol;
    kids = n.kids;
    count = n.count;
    exact = if_present present n.exact n.exact_mark;
    wild = if_present present n.wild n.wild_mark;
  }
