-- Networks of a list, found by a test or by their value.
use Rattle.std.proofs.Common.{◌≡◌, ℕ, zero, suc, ◌<◌, ◌≤◌, true, ◌==◌, List, [], ◌∷◌, length, slice_index_or, Contains, Ok, ◌↔◌, refl, ap, ap₂, subst, arith, eqb-true, eq-eqb}
use Rattle.std.specs.List.{AllByRecursion, Any, list_any}
use Rattle.std.proofs.lemmas.Bool.{and_parts}
use Rattle.std.proofs.lemmas.List.Folds.{Any-from_list_any, list_any-from_Any}
use Rattle.ip_prefix.specs.declared.Addr.{Addr}
use Rattle.ip_prefix.specs.declared.Addr.TheVariants.{V4, V6}
use Rattle.ip_prefix.specs.Bits.{IsAddr, BeginAlike}
use Rattle.ip_prefix.specs.Prefix.{PlainPrefix, width, contains}
use Rattle.networks.specs.Allowed.{is_same_addr, is_same_network, has_network}
use Rattle.networks.specs.Network.{network_of, IsNetworkOf, IsNetworkOfAddresses}

-- a fact of each is a fact of the one at a place
all_at : {X : Type 0} (W : X → Type 0) (xs : List X) (k : ℕ) (x : X) → AllByRecursion W xs → k < length xs → slice_index_or xs k x ≡ x → W x
all_at W [] k x all lt at = absurd (omega arith)
all_at W (y ∷ ys) zero x all lt at = subst W at all.0
all_at W (y ∷ ys) (suc k) x all lt at = all_at W ys k x all.1 (omega arith) at

any_goes : {X : Type 0} (W P Q : X → Type 0) (xs : List X) → AllByRecursion W xs → ((x : X) → W x → P x → Q x) → Any P xs → Any Q xs
any_goes W P Q xs all goes (k, x, lt, at, p) = (k, x, lt, at, goes x (all_at W xs k x all lt at) p)

abbrev Alike : Type 0
Alike = (p : PlainPrefix) (a : Addr) → p.length ≤ width p.addr → IsAddr p.addr → IsAddr a → (contains p a ≡ true) ↔ BeginAlike p.length p.addr a

abbrev Made : Type 0
Made = (addr : Addr) (length : ℕ) (network : PlainPrefix) → (network_of addr length ≡ Ok network) ↔ IsNetworkOf addr length network

alike_at : (n : PlainPrefix) (a : Addr) → Alike → Made → IsAddr a → IsNetworkOfAddresses n → (contains n a ≡ true) ↔ BeginAlike n.length n.addr a
alike_at n a alike made is_addr is = alike n a ((made n.addr n.length n).0 is.is_network.made).within is.is_addr is_addr

pub in_one_alike : (ns : List PlainPrefix) (a : Addr) → Alike → Made → AllByRecursion IsNetworkOfAddresses ns → IsAddr a → (list_any (λ n. contains n a) ns ≡ true) ↔ Any (λ n. BeginAlike n.length n.addr a) ns
in_one_alike ns a alike made all is_addr = (
  (λ h. any_goes IsNetworkOfAddresses (λ n. contains n a ≡ true) (λ n. BeginAlike n.length n.addr a) ns all (λ n is. (alike_at n a alike made is_addr is).0) (Any-from_list_any (λ n. contains n a) ns h)),
  (λ some. list_any-from_Any (λ n. contains n a) ns (any_goes IsNetworkOfAddresses (λ n. BeginAlike n.length n.addr a) (λ n. contains n a ≡ true) ns all (λ n is. (alike_at n a alike made is_addr is).1) some)),
)

same_is : (a b : Addr) → is_same_addr a b ≡ true → a ≡ b
same_is (V4 x) (V4 y) e = ap V4 (eqb-true x y e)
same_is (V4 x) (V6 y) e = absurd cc
same_is (V6 x) (V4 y) e = absurd cc
same_is (V6 x) (V6 y) e = ap V6 (eqb-true x y e)

is_same : (a : Addr) → is_same_addr a a ≡ true
is_same (V4 x) = eq-eqb x x refl
is_same (V6 x) = eq-eqb x x refl

pair_of : (a b : PlainPrefix) → a.addr ≡ b.addr → a.length ≡ b.length → a ≡ b
pair_of a b e f = let make : Addr → ℕ → PlainPrefix = λ addr length. record { addr = addr; length = length } in ap₂ make e f

network_is : (a b : PlainPrefix) → is_same_network a b ≡ true → a ≡ b
network_is a b e = let both = and_parts (is_same_addr a.addr b.addr) (a.length == b.length) e in pair_of a b (same_is a.addr b.addr both.0) (eqb-true a.length b.length both.1)

is_network : (a : PlainPrefix) → is_same_network a a ≡ true
is_network a = rw (is_same a.addr, eq-eqb a.length a.length refl) refl

found : (ns : List PlainPrefix) (n : PlainPrefix) → Any (λ m. is_same_network m n ≡ true) ns → Contains ns n
found ns n (k, x, lt, at, e) = (k, lt, subst (λ (m : PlainPrefix). slice_index_or ns k m ≡ m) (network_is x n e) at)

pub network_found : (ns : List PlainPrefix) (n : PlainPrefix) → (has_network ns n ≡ true) ↔ Contains ns n
network_found ns n = (
  (λ h. found ns n (Any-from_list_any (λ m. is_same_network m n) ns h)),
  (λ some. list_any-from_Any (λ m. is_same_network m n) ns (some.0, n, some.1, some.2, is_network n)),
)
