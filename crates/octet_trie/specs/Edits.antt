-- What edits do to what is stored.
use Rattle.std.specs.Prelude.{◌≡◌, ℕ, ◌+◌, ◌<◌, ◌≤◌, Bool, Option, Some, None, List, [], ◌∷◌, ◌++◌, length, take, drop, slice_index, slice_index_or}
use Rattle.std.specs.BTreeMap.{insert_entry, is_at}
use Rattle.std.specs.List.{AllByRecursion}
use Rattle.std.specs.Map.{remove_entry}
use Rattle.octet_trie.specs.ListKeys.{octet_keys, symbols, entry_key}
use Rattle.octet_trie.specs.Nodes.{PlainNode, Sub, Stored, name_of, key_of, kids_of, stands, IsNode, Extends}
use Rattle.octet_trie.specs.Plain.{plain}
use Rattle.octet_trie.specs.declared.node.Node.{Node}
use Rattle.trie_keys.specs.Keys.{Under}
use Rattle.trie_keys.specs.declared.marked.Marked.{Marked}

-- so many first items are the same in both lists, and the next ones differ
pub record IsCommon (a b : List ℕ) (n : ℕ) : Type 0 where
  pub here : n ≤ length a
  pub there : n ≤ length b
  pub same : take n a ≡ take n b
  pub differ : n < length a → n < length b → slice_index a n ≡ slice_index b n → ⊥

-- at the place stands the one with the symbol
pub record KidAt {V : Type 0} (kids : List (Sub V)) (symbol place : ℕ) : Type 0 where
  pub within : place < length kids
  pub found : (d : Sub V) → (slice_index_or kids place d).symbol ≡ symbol

-- no one has the symbol, which would stand at the place
pub record GapAt {V : Type 0} (kids : List (Sub V)) (symbol place : ℕ) : Type 0 where
  pub within : place ≤ length kids
  pub below : AllByRecursion (λ k. k.symbol < symbol) (take place kids)
  pub above : AllByRecursion (λ k. symbol < k.symbol) (drop place kids)

-- for what a node that may be there stands, as a list
abbrev pub subs_if : {N M : Type 0} → (M → Bool) → Stored (Marked N M) → Option (Node N M) → List (Sub (Marked N M))
subs_if present s None = []
subs_if present s (Some n) = stands s (plain present n) ∷ []

-- what is under a node, with others in place of those from one place up to another
abbrev pub with_others : {V : Type 0} → List (Sub V) → ℕ → List (Sub V) → ℕ → List (Sub V)
with_others kids place others rest = take place kids ++ (others ++ drop rest kids)

-- the same node over these
pub record Rekid {V : Type 0} (old new : Stored V) (n : PlainNode V) (kids : List (Sub V)) (m : PlainNode V) : Type 0 where
  pub stored : new ≡ record { octets = old.octets; subs = old.subs ++ kids }
  pub node : m ≡ record n { kids = length old.subs; count = length kids }

-- the octets are those of a key, with an octet behind them and perhaps more
abbrev pub GoesOn : List ℕ → List ℕ → Type 0
GoesOn name octets = octets ≡ name ++ (slice_index octets (length name) ∷ drop (length name + 1) octets)

-- a node with a value at its key, and with nothing under it
pub record IsLeaf {V : Type 0} (old new : Stored V) (octets : List ℕ) (symbol : ℕ) (wild : Bool) (v : V) (m : PlainNode V) : Type 0 where
  pub extends : Extends old new
  pub node : IsNode new m
  pub sub : stands new m ≡ record { key = symbols octets; symbol = symbol; list = (entry_key octets wild, v) ∷ [] }

-- there is one, and it has the symbol
pub record OneKid {V : Type 0} (kids : List (Sub V)) (symbol : ℕ) : Type 0 where
  pub one : length kids ≡ 1
  pub found : (d : Sub V) → (slice_index_or kids 0 d).symbol ≡ symbol

-- a node of the first octets of the key, over the same entries
pub record IsBranch {V : Type 0} (old new : Stored V) (n : PlainNode V) (size : ℕ) (m : PlainNode V) : Type 0 where
  pub extends : Extends old new
  pub node : IsNode new m
  pub symbol : m.symbol ≡ n.symbol
  pub len : m.len ≡ size
  pub name : name_of new.octets m ≡ take size (name_of old.octets n)
  pub list : (stands new m).list ≡ (stands old n).list
  pub kids : OneKid (kids_of new.subs m) (slice_index (name_of old.octets n) size)

-- a node stands for the entries of another, with the value at the key
pub record Put {V : Type 0} (old new : Stored V) (n : PlainNode V) (key : List ℕ) (v : V) (m : PlainNode V) : Type 0 where
  pub extends : Extends old new
  pub node : IsNode new m
  pub symbol : m.symbol ≡ n.symbol
  pub list : (stands new m).list ≡ insert_entry octet_keys.order (stands old n).list key v
  pub under : (top : List ℕ) (t : ℕ) → Under octet_keys top t key → Under octet_keys top t (key_of old.octets n) → Under octet_keys top t (key_of new.octets m)

-- a node stands for the entries of another, without that of the key
pub record Taken {V : Type 0} (old new : Stored V) (n : PlainNode V) (key : List ℕ) (m : PlainNode V) : Type 0 where
  pub extends : Extends old new
  pub node : IsNode new m
  pub symbol : m.symbol ≡ n.symbol
  pub name : name_of new.octets m ≡ name_of old.octets n
  pub list : (stands new m).list ≡ remove_entry (is_at (octet_keys.order key)) (stands old n).list

-- a node that stands for the same entries at the same place
pub record IsInPlace {V : Type 0} (s : Stored V) (n m : PlainNode V) : Type 0 where
  pub node : IsNode s m
  pub symbol : m.symbol ≡ n.symbol
  pub list : (stands s m).list ≡ (stands s n).list
  pub under : (top : List ℕ) (t : ℕ) → Under octet_keys top t (key_of s.octets n) → Under octet_keys top t (key_of s.octets m)

-- what stands in place of a node, if it has entries
abbrev pub IsLifted : {N M : Type 0} → (M → Bool) → Stored (Marked N M) → PlainNode (Marked N M) → Option (Node N M) → Type 0
IsLifted present s n None = (stands s n).list ≡ []
IsLifted present s n (Some m) = IsInPlace s n (plain present m)
