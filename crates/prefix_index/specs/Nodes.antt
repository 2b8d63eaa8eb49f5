-- Nodes by number, each behind those that it names, and the entries for which each number stands. The number 0 is that
-- of no node, and the node of place k has the number k + 1.
use Rattle.std.specs.Prelude.{◌≡◌, ℕ, ◌<◌, ◌≤◌, true, Option, Some, None, List, [], ◌∷◌, ◌++◌, length, slice_index_or, ◌⊎◌}
use Rattle.std.specs.List.{AllByRecursion}
use Rattle.std.specs.BTreeMap.{insert_entry, is_at}
use Rattle.std.specs.Map.{remove_entry}
use Rattle.trie_keys.specs.Keys.{Keys, Under}
use Rattle.trie_keys.specs.Scan.{own}
use Rattle.prefix_index.specs.PlainNode.{PlainNode}

-- for what a number stands: the node's key, and the entries of it and of those under it
pub record Sub (K V : Type 0) : Type 0 where
  pub key : Option K
  pub list : List (K × V)

abbrev pub nothing : {K V : Type 0} → Sub K V
nothing = record { key = None; list = [] }

abbrev pub sub_at : {K V : Type 0} → List (Sub K V) → ℕ → Sub K V
sub_at subs number = slice_index_or subs number nothing

-- for what a node stands, by what those before it stand for
abbrev pub sub_of : {K V : Type 0} → Keys K → List (Sub K V) → PlainNode K V → Sub K V
sub_of keys subs n = record { key = Some n.key; list = own n.key n.value ++ ((sub_at subs n.zero).list ++ (sub_at subs n.one).list) }

unfoldable pub subs_from : {K V : Type 0} → Keys K → List (Sub K V) → List (PlainNode K V) → List (Sub K V)
subs_from keys subs [] = subs
subs_from keys subs (n ∷ ns) = subs_from keys (subs ++ sub_of keys subs n ∷ []) ns

-- the key of what a number stands for begins with a key, and has this symbol behind it
abbrev pub IsKeyUnder : {K V : Type 0} → Keys K → Sub K V → K → ℕ → Type 0
IsKeyUnder {K = K} keys sub top symbol = (k : K) × (sub.key ≡ Some k) × Under keys top symbol k

-- the number is that of no node, or stands for what begins with a key and has this symbol behind it
pub record IsKid {K V : Type 0} (keys : Keys K) (subs : List (Sub K V)) (top : K) (symbol number : ℕ) : Type 0 where
  pub before : number < length subs
  pub under : AllByRecursion (λ e. Under keys top symbol e.0) (sub_at subs number).list
  pub none_or_under : (number ≡ 0) ⊎ IsKeyUnder keys (sub_at subs number) top symbol

pub record IsNode {K V : Type 0} (keys : Keys K) (subs : List (Sub K V)) (n : PlainNode K V) : Type 0 where
  pub valid : keys.valid n.key ≡ true
  pub zero : IsKid keys subs n.key 0 n.zero
  pub one : IsKid keys subs n.key 1 n.one

unfoldable pub AreNodes : {K V : Type 0} → Keys K → List (Sub K V) → List (PlainNode K V) → Type 0
AreNodes keys subs [] = Unit {0}
AreNodes keys subs (n ∷ ns) = IsNode keys subs n × AreNodes keys (subs ++ sub_of keys subs n ∷ []) ns

-- for what the numbers stand
abbrev pub subs_of : {K V : Type 0} → Keys K → List (PlainNode K V) → List (Sub K V)
subs_of keys nodes = subs_from keys (nothing ∷ []) nodes

abbrev pub stands : {K V : Type 0} → Keys K → List (PlainNode K V) → ℕ → Sub K V
stands keys nodes number = sub_at (subs_of keys nodes) number

-- the nodes are as they should be
pub record AreWell {K V : Type 0} (keys : Keys K) (nodes : List (PlainNode K V)) : Type 0 where
  pub each : AreNodes keys (nothing ∷ []) nodes

-- nodes came behind the old ones, and each number stands for what it stood for
pub record Extends {K V : Type 0} (keys : Keys K) (old new : List (PlainNode K V)) : Type 0 where
  pub well : AreWell keys new
  pub more : length old ≤ length new
  pub keeps : (number : ℕ) → number ≤ length old → stands keys new number ≡ stands keys old number

-- a node came behind the old ones, and has this number
pub record Pushed {K V : Type 0} (keys : Keys K) (old new : List (PlainNode K V)) (n : PlainNode K V) (number : ℕ) : Type 0 where
  pub extends : Extends keys old new
  pub some : 0 < number
  pub within : number ≤ length new
  pub sub : stands keys new number ≡ sub_of keys (subs_of keys old) n

-- a number stands for the entries of an older one, with the value at the key
pub record Put {K V : Type 0} (keys : Keys K) (old new : List (PlainNode K V)) (at : ℕ) (key : K) (value : V) (number : ℕ) : Type 0 where
  pub extends : Extends keys old new
  pub within : number ≤ length new
  pub list : (stands keys new number).list ≡ insert_entry keys.order (stands keys old at).list key value
  pub kid : (top : K) (symbol : ℕ) → Under keys top symbol key → IsKid keys (subs_of keys old) top symbol at → IsKid keys (subs_of keys new) top symbol number

-- what is known of the node of a number
pub record IsAt {K V : Type 0} (keys : Keys K) (nodes : List (PlainNode K V)) (number : ℕ) (n : PlainNode K V) : Type 0 where
  pub sub : stands keys nodes number ≡ sub_of keys (subs_of keys nodes) n
  pub node : IsNode keys (subs_of keys nodes) n
  pub zero_before : n.zero < number
  pub one_before : n.one < number

-- a node, or what is under it where it has no value and one kid, has this number
pub record Joined {K V : Type 0} (keys : Keys K) (old new : List (PlainNode K V)) (n : PlainNode K V) (number : ℕ) : Type 0 where
  pub extends : Extends keys old new
  pub within : number ≤ length new
  pub list : (stands keys new number).list ≡ (sub_of keys (subs_of keys old) n).list
  pub kid : (top : K) (symbol : ℕ) → Under keys top symbol n.key → IsKid keys (subs_of keys new) top symbol number

-- a number stands for the entries of an older one, without that of the key
pub record Taken {K V : Type 0} (keys : Keys K) (old new : List (PlainNode K V)) (at : ℕ) (key : K) (number : ℕ) : Type 0 where
  pub extends : Extends keys old new
  pub within : number ≤ length new
  pub list : (stands keys new number).list ≡ remove_entry (is_at (keys.order key)) (stands keys old at).list
  pub kid : (top : K) (symbol : ℕ) → IsKid keys (subs_of keys old) top symbol at → IsKid keys (subs_of keys new) top symbol number

-- a number among some nodes stands for what another stands for among others
pub record Copied {K V : Type 0} (keys : Keys K) (source : List (PlainNode K V)) (at : ℕ) (old new : List (PlainNode K V)) (number : ℕ) : Type 0 where
  pub extends : Extends keys old new
  pub within : number ≤ length new
  pub list : (stands keys new number).list ≡ (stands keys source at).list
  pub kid : (top : K) (symbol : ℕ) → IsKid keys (subs_of keys source) top symbol at → IsKid keys (subs_of keys new) top symbol number

-- a number stands for these entries
pub record Built {K V : Type 0} (keys : Keys K) (old new : List (PlainNode K V)) (es : List (K × V)) (number : ℕ) : Type 0 where
  pub extends : Extends keys old new
  pub within : number ≤ length new
  pub list : (stands keys new number).list ≡ es
  pub kid : (top : K) (symbol : ℕ) → AllByRecursion (λ e. Under keys top symbol e.0) es → IsKid keys (subs_of keys new) top symbol number
