-- Nodes by number, each behind those under it, and the entries for which each number stands.
use Rattle.std.specs.Prelude.{◌≡◌, ℕ, ◌+◌, ◌<◌, ◌≤◌, Bool, cond, Option, Some, None, List, [], ◌∷◌, ◌++◌, length, take, drop, slice_index_or}
use Rattle.std.specs.List.{AllByRecursion, flat_map}
use Rattle.octet_trie.specs.ListKeys.{octet_keys, symbols}
use Rattle.packed_lists.specs.Octets.{StandsWhole}
use Rattle.trie_keys.specs.Keys.{Under}
use Rattle.trie_keys.specs.Scan.{own}

-- a node: where the octets of its key begin and how many they are, the octet behind the key of the node above, the number of the
-- first of the nodes under it and how many they are, and the values at its key
pub record PlainNode (V : Type 0) : Type 0 where
  pub key : ℕ
  pub len : ℕ
  pub symbol : ℕ
  pub kids : ℕ
  pub count : ℕ
  pub exact : Option V
  pub wild : Option V

module _ {V : Type 0} where
  -- a node with no key and no values
  abbrev pub root_node : PlainNode V
  root_node = record { key = 0; len = 0; symbol = 0; kids = 0; count = 0; exact = None; wild = None }

  -- a node with one value and nothing under it
  abbrev pub leaf_node : ℕ → ℕ → ℕ → Bool → V → PlainNode V
  leaf_node key len symbol wild v = record { key = key; len = len; symbol = symbol; kids = 0; count = 0; exact = cond wild None (Some v); wild = cond wild (Some v) None }

  -- a node of the first octets of another's key, over one node and without values
  abbrev pub branch_node : PlainNode V → ℕ → ℕ → PlainNode V
  branch_node n len kids = record { key = n.key; len = len; symbol = n.symbol; kids = kids; count = 1; exact = None; wild = None }

  -- the value at the node's exact or wild key
  abbrev pub value_of : PlainNode V → Bool → Option V
  value_of n wild = cond wild n.wild n.exact

  -- the node with a value there, or without
  abbrev pub with_value : PlainNode V → Bool → V → PlainNode V
  with_value n wild v = cond wild (record n { wild = Some v }) (record n { exact = Some v })

  abbrev pub without_value : PlainNode V → Bool → PlainNode V
  without_value n wild = cond wild (record n { wild = None }) (record n { exact = None })

-- for what a node stands: its key as symbols, the octet behind the key of the node above, and the entries of it and of all under it
pub record Sub (V : Type 0) : Type 0 where
  pub key : List ℕ
  pub symbol : ℕ
  pub list : List (List ℕ × V)

-- the octets in a pool, and for what the numbers of nodes stand
pub record Stored (V : Type 0) : Type 0 where
  pub octets : List ℕ
  pub subs : List (Sub V)

module _ {V : Type 0} where
  -- the octets of a node's key
  abbrev pub name_of : List ℕ → PlainNode V → List ℕ
  name_of octets n = take n.len (drop n.key octets)

  abbrev pub key_of : List ℕ → PlainNode V → List ℕ
  key_of octets n = symbols (name_of octets n)

  abbrev pub kids_of : List (Sub V) → PlainNode V → List (Sub V)
  kids_of subs n = take n.count (drop n.kids subs)

  -- all entries for which some nodes stand
  abbrev pub joined : List (Sub V) → List (List ℕ × V)
  joined subs = flat_map (λ s. s.list) subs

  -- the entries at a key, and those under it
  abbrev pub list_of : List ℕ → Option V → Option V → List (Sub V) → List (List ℕ × V)
  list_of key exact wild kids = own (key ++ 0 ∷ []) exact ++ (own (key ++ 1 ∷ []) wild ++ joined kids)

  abbrev pub sub_of : List ℕ → List (Sub V) → PlainNode V → Sub V
  sub_of octets subs n = record {
    key = key_of octets n;
    symbol = n.symbol;
    list = list_of (key_of octets n) n.exact n.wild (kids_of subs n);
  }

  -- for what a node stands
  abbrev pub stands : Stored V → PlainNode V → Sub V
  stands s n = sub_of s.octets s.subs n

-- it stands for what begins with a key and has its symbol behind it
pub record IsKid {V : Type 0} (top : List ℕ) (s : Sub V) : Type 0 where
  pub small : s.symbol < 256
  pub key : Under octet_keys top (s.symbol + 2) s.key
  pub list : AllByRecursion (λ e. Under octet_keys top (s.symbol + 2) e.0) s.list

-- the same of each, and their symbols rise
abbrev pub AreKids : {V : Type 0} → List ℕ → ℕ → List (Sub V) → Type 0
AreKids top low [] = Unit {0}
AreKids top low (s ∷ ss) = (low ≤ s.symbol) × (IsKid top s × AreKids top (s.symbol + 1) ss)

-- a node can stand behind what is stored
pub record IsNode {V : Type 0} (s : Stored V) (n : PlainNode V) : Type 0 where
  pub whole : StandsWhole s.octets n.key n.len
  pub short : n.len < 255
  pub within : n.kids + n.count ≤ length s.subs
  pub kids : AreKids (key_of s.octets n) 0 (kids_of s.subs n)

module _ {V : Type 0} where
  -- for what numbers stand, of which some are there already
  unfoldable pub subs_from : List ℕ → List (Sub V) → List (PlainNode V) → List (Sub V)
  subs_from octets subs [] = subs
  subs_from octets subs (n ∷ ns) = subs_from octets (subs ++ sub_of octets subs n ∷ []) ns

  unfoldable pub AreNodes : List ℕ → List (Sub V) → List (PlainNode V) → Type 0
  AreNodes octets subs [] = Unit {0}
  AreNodes octets subs (n ∷ ns) = IsNode (record { octets = octets; subs = subs }) n × AreNodes octets (subs ++ sub_of octets subs n ∷ []) ns

-- the number is that of the node
pub record IsAt {V : Type 0} (s : Stored V) (number : ℕ) (n : PlainNode V) : Type 0 where
  pub within : number < length s.subs
  pub sub : (d : Sub V) → slice_index_or s.subs number d ≡ stands s n
  pub node : IsNode s n
  pub earlier : n.kids + n.count ≤ number

-- octets and nodes came behind the old ones
pub record Extends {V : Type 0} (old new : Stored V) : Type 0 where
  pub octets : List ℕ
  pub subs : List (Sub V)
  pub same : new ≡ record { octets = old.octets ++ octets; subs = old.subs ++ subs }
