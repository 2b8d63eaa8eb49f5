-- The order of ranks is total.
use Rattle.std.proofs.Common.{◌≡◌, ℕ, true, false, List, [], length, map, reverse, refl, sym, ap, ◌∙◌, subst, true≢false}
use Rattle.std.specs.Char.{to_ascii_lowercase}
use Rattle.std.specs.Cmp.{IsTotalOrder, then_total, on_total, back_total, bool_cmp_total, nat_cmp_total}
use Rattle.std.specs.Cmp.Lexicographic.{lists_total, nat_list_cmp_total}
use Rattle.std.specs.Ordering.{nat_cmp, ordering_then, ordering_reverse, is_lt}
use Rattle.std.specs.declared.cmp.Ordering.{Ordering}
use Rattle.std.specs.declared.cmp.Ordering.TheVariants.{Less, Equal, Greater}
use Rattle.dns_name.specs.Alike.{PlainPattern}
use Rattle.dns_name.specs.Labels.{name_octets}
use Rattle.dns_name.specs.Order.{label_order, canonical_order}
use Rattle.ip_prefix.specs.declared.Addr.TheVariants.{V4}
use Rattle.ip_prefix.specs.Prefix.{PlainPrefix, mapped_number, mapped_length, family, prefix_order}
use Rattle.qname_index.specs.Best.{pattern_order}
use Rattle.trigger_codec.specs.declared.trigger.Trigger.{Trigger}
use Rattle.trigger_codec.specs.declared.trigger.Trigger.TheVariants.{ClientIp, Qname, ResponseIp, NsDname, NsIp}
use Rattle.rpz_precedence.specs.Rank.{PlainRank, kind_number, server_order, trigger_order, rank_order}

-- ---- the orders of one kind

prefix_total : IsTotalOrder prefix_order
prefix_total =
    then_total (back_total (on_total (λ (p : PlainPrefix). mapped_length p.addr p.length) nat_cmp_total))
    (then_total (on_total (λ (p : PlainPrefix). mapped_number p.addr) nat_cmp_total) (on_total (λ (p : PlainPrefix). family p.addr) nat_cmp_total))

pattern_total : IsTotalOrder pattern_order
pattern_total =
    then_total (on_total (λ (p : PlainPattern). p.wild) bool_cmp_total)
    (then_total (back_total (on_total (λ (p : PlainPattern). length p.base) nat_cmp_total)) (on_total (λ (p : PlainPattern). name_octets p.base) nat_list_cmp_total))

label_total : IsTotalOrder label_order
label_total = on_total (λ (label : List ℕ). map to_ascii_lowercase label) nat_list_cmp_total

canonical_total : IsTotalOrder canonical_order
canonical_total = on_total (λ (name : List (List ℕ)). reverse name) (lists_total label_total)

server_total : IsTotalOrder server_order
server_total =
    then_total (back_total (on_total (λ (p : PlainPattern). length p.base) nat_cmp_total))
    (then_total (on_total (λ (p : PlainPattern). p.wild) bool_cmp_total) (on_total (λ (p : PlainPattern). p.base) canonical_total))

-- ---- the order of triggers, by what each has: one of another kind has the same as all others

some_prefix : PlainPrefix
some_prefix = record { addr = V4 0; length = 0 }

some_pattern : PlainPattern
some_pattern = record { base = []; wild = false }

prefix_in : Trigger → PlainPrefix
prefix_in (ClientIp prefix) = prefix
prefix_in (Qname pattern) = some_prefix
prefix_in (ResponseIp prefix) = prefix
prefix_in (NsDname pattern) = some_prefix
prefix_in (NsIp prefix) = prefix

pattern_in : Trigger → PlainPattern
pattern_in (ClientIp prefix) = some_pattern
pattern_in (Qname pattern) = pattern
pattern_in (ResponseIp prefix) = some_pattern
pattern_in (NsDname pattern) = some_pattern
pattern_in (NsIp prefix) = some_pattern

server_in : Trigger → PlainPattern
server_in (ClientIp prefix) = some_pattern
server_in (Qname pattern) = some_pattern
server_in (ResponseIp prefix) = some_pattern
server_in (NsDname pattern) = pattern
server_in (NsIp prefix) = some_pattern

abbrev order_by_parts : Trigger → Trigger → Ordering
order_by_parts t u =
    ordering_then (nat_cmp (kind_number t) (kind_number u))
    (ordering_then (prefix_order (prefix_in t) (prefix_in u)) (ordering_then (pattern_order (pattern_in t) (pattern_in u)) (server_order (server_in t) (server_in u))))

parts_total : IsTotalOrder order_by_parts
parts_total =
    then_total (on_total kind_number nat_cmp_total)
    (then_total (on_total prefix_in prefix_total) (then_total (on_total pattern_in pattern_total) (on_total server_in server_total)))

then_equal : (o : Ordering) → ordering_then o Equal ≡ o
then_equal Less = refl
then_equal Equal = refl
then_equal Greater = refl

by_parts : (t u : Trigger) → order_by_parts t u ≡ trigger_order t u
unfolding prefix_in pattern_in server_in some_prefix some_pattern
by_parts (ClientIp p) (ClientIp q) = then_equal (prefix_order p q)
by_parts (Qname p) (Qname q) = then_equal (pattern_order p q)
by_parts (ResponseIp p) (ResponseIp q) = then_equal (prefix_order p q)
by_parts (NsDname p) (NsDname q) = refl
by_parts (NsIp p) (NsIp q) = then_equal (prefix_order p q)
by_parts t u = refl

trigger_total : IsTotalOrder trigger_order
trigger_total = subst IsTotalOrder (λ i t u. by_parts t u i) parts_total

pub rank_total : IsTotalOrder rank_order
rank_total =
    then_total (on_total (λ (r : PlainRank). r.position) nat_cmp_total)
    (then_total (on_total (λ (r : PlainRank). r.zone) nat_cmp_total) (on_total (λ (r : PlainRank). r.trigger) trigger_total))

-- ---- what a test of an order says

pub less_if : (o : Ordering) → is_lt o ≡ true → o ≡ Less
less_if Less h = refl
less_if Equal h = absurd (true≢false (sym h))
less_if Greater h = absurd (true≢false (sym h))

pub equal_if : (o turned : Ordering) → o ≡ ordering_reverse turned → is_lt o ≡ false → is_lt turned ≡ false → o ≡ Equal
equal_if Less turned is h k = absurd (true≢false h)
equal_if Equal turned is h k = refl
equal_if Greater Less is h k = absurd (true≢false k)
equal_if Greater Equal is h k = cc
equal_if Greater Greater is h k = cc

-- ---- what does not precede a value does not precede one that this value does not follow

module _ {K : Type 0} {R : K → K → Ordering} (o : IsTotalOrder R) where
  behind_less : (a b c : K) → R a b ≡ Less → is_lt (R c b) ≡ false → (order : Ordering) → R c a ≡ order → is_lt order ≡ false
  behind_less a b c before k Less is = absurd (true≢false (ap is_lt (sym (o.trans c a b is before)) ∙ k))
  behind_less a b c before k Equal is = refl
  behind_less a b c before k Greater is = refl

  behind_by : (a b c : K) → is_lt (R c b) ≡ false → (order : Ordering) → R b a ≡ order → is_lt order ≡ false → is_lt (R c a) ≡ false
  behind_by a b c k Less is h = absurd (true≢false h)
  behind_by a b c k Equal is h = ap is_lt (o.antisymm c a ∙ ap ordering_reverse (sym (o.congr b a c is)) ∙ sym (o.antisymm c b)) ∙ k
  behind_by a b c k Greater is h = behind_less a b c (o.antisymm a b ∙ ap ordering_reverse is) k (R c a) refl

  pub behind : (a b c : K) → is_lt (R b a) ≡ false → is_lt (R c b) ≡ false → is_lt (R c a) ≡ false
  behind a b c h k = behind_by a b c k (R b a) refl h
