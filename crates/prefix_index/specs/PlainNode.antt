-- A node as its key, its value, and the numbers of the nodes under it.
use Rattle.std.specs.Prelude.{ℕ, Bool, cond, Option, Some, None, List, map}
use Rattle.trie_keys.specs.declared.marked.Marked.{Marked}
use Rattle.prefix_index.specs.declared.node.Node.{Node}

pub record PlainNode (K V : Type 0) : Type 0 where
  pub key : K
  pub value : Option V
  pub zero : ℕ
  pub one : ℕ

abbrev pub node_of : {K V : Type 0} → K → Option V → ℕ → ℕ → PlainNode K V
node_of key value left right = record { key = key; value = value; zero = left; one = right }

-- the value, where its mark says that there is one
abbrev pub value_of : {N M : Type 0} → (M → Bool) → Marked N M → Option (Marked N M)
value_of present value = cond (present value.mark) (Some value) None

abbrev pub plain_node : {K N M : Type 0} → (M → Bool) → Node K N M → PlainNode K (Marked N M)
plain_node present n = record { key = n.key; value = value_of present n.value; zero = n.zero; one = n.one }

abbrev pub plain_nodes : {K N M : Type 0} → (M → Bool) → List (Node K N M) → List (PlainNode K (Marked N M))
plain_nodes present nodes = map (plain_node present) nodes
