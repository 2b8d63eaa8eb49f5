-- Ranks of which neither precedes the other are one, where the bases of patterns are names in lower case.
use Rattle.std.proofs.Common.{◌≡◌, ℕ, List, length, sym, ap, ◌∙◌, arith}
use Rattle.std.specs.Cmp.Lexicographic.{slice_cmp}
use Rattle.std.specs.Ordering.{nat_cmp, bool_cmp, ordering_then}
use Rattle.std.specs.declared.cmp.Ordering.TheVariants.{Equal}
use Rattle.dns_name.specs.Alike.{PlainPattern}
use Rattle.dns_name.specs.Labels.{IsName, name_octets, lowered}
use Rattle.dns_name.specs.Order.{canonical_order}
use Rattle.ip_prefix.specs.declared.Addr.{Addr}
use Rattle.ip_prefix.specs.declared.Addr.TheVariants.{V4, V6}
use Rattle.ip_prefix.specs.Prefix.{PlainPrefix, mapped_number, mapped_length, family, prefix_order}
use Rattle.qname_index.specs.Best.{pattern_order}
use Rattle.trigger_codec.specs.Bases.{IsPattern, IsTrigger}
use Rattle.trigger_codec.specs.declared.trigger.Trigger.{Trigger}
use Rattle.trigger_codec.specs.declared.trigger.Trigger.TheVariants.{ClientIp, Qname, ResponseIp, NsDname, NsIp}
use Rattle.rpz_precedence.specs.Rank.{PlainRank, kind_number, server_order, place_order, trigger_order, rank_order}
use Rattle.dns_name.proofs.Orders.{then_first, then_second, same_number, same_bool, same_bytes, alike_from_equal}

-- ---- prefixes

same_addr : (a b : Addr) → mapped_number a ≡ mapped_number b → family a ≡ family b → a ≡ b
same_addr (V4 x) (V4 y) e f = ap V4 (omega arith)
same_addr (V4 x) (V6 y) e f = absurd (omega arith)
same_addr (V6 x) (V4 y) e f = absurd (omega arith)
same_addr (V6 x) (V6 y) e f = ap V6 e

same_length : (a b : Addr) (m n : ℕ) → family a ≡ family b → mapped_length b n ≡ mapped_length a m → m ≡ n
same_length (V4 x) (V4 y) m n f e = omega arith
same_length (V4 x) (V6 y) m n f e = absurd (omega arith)
same_length (V6 x) (V4 y) m n f e = absurd (omega arith)
same_length (V6 x) (V6 y) m n f e = sym e

same_prefix : (p q : PlainPrefix) → prefix_order p q ≡ Equal → p ≡ q
same_prefix p q e =
    let rest = then_second (nat_cmp (mapped_length q.addr q.length) (mapped_length p.addr p.length)) _ e in
    let lengths : mapped_length q.addr q.length ≡ mapped_length p.addr p.length = same_number _ _ (then_first _ _ e) in
    let addrs : mapped_number p.addr ≡ mapped_number q.addr = same_number _ _ (then_first _ _ rest) in
    let families : family p.addr ≡ family q.addr = same_number _ _ (then_second (nat_cmp (mapped_number p.addr) (mapped_number q.addr)) _ rest) in
    let addr : p.addr ≡ q.addr = same_addr p.addr q.addr addrs families in
    let length : p.length ≡ q.length = same_length p.addr q.addr p.length q.length families lengths in
    λ i. record { addr = addr i; length = length i }

-- ---- patterns

-- names are one where their octets are
abbrev pub AreApart : Type 0
AreApart = (name other : List (List ℕ)) → IsName name → IsName other → name_octets name ≡ name_octets other → name ≡ other

same_pattern : AreApart → (p q : PlainPattern) → IsPattern p → IsPattern q → pattern_order p q ≡ Equal → p ≡ q
same_pattern apart p q is_p is_q e =
    let rest = then_second (bool_cmp p.wild q.wild) (ordering_then (nat_cmp (length q.base) (length p.base)) (slice_cmp nat_cmp (name_octets p.base) (name_octets q.base))) e in
    let wild : p.wild ≡ q.wild = same_bool p.wild q.wild (then_first (bool_cmp p.wild q.wild) _ e) in
    let octets : name_octets p.base ≡ name_octets q.base = same_bytes _ _ (then_second (nat_cmp (length q.base) (length p.base)) (slice_cmp nat_cmp (name_octets p.base) (name_octets q.base)) rest) in
    let base : p.base ≡ q.base = apart p.base q.base is_p.is_base is_q.is_base octets in
    λ i. record { base = base i; wild = wild i }

-- ---- names in the canonical order

pub same_base : (a b : List (List ℕ)) → lowered a ≡ a → lowered b ≡ b → canonical_order a b ≡ Equal → a ≡ b
same_base a b lower_a lower_b e = sym lower_a ∙ alike_from_equal a b e ∙ lower_b

same_server : (p q : PlainPattern) → IsPattern p → IsPattern q → server_order p q ≡ Equal → p ≡ q
same_server p q is_p is_q e =
    let rest = then_second (nat_cmp (length q.base) (length p.base)) (ordering_then (bool_cmp p.wild q.wild) (canonical_order p.base q.base)) e in
    let wild : p.wild ≡ q.wild = same_bool p.wild q.wild (then_first (bool_cmp p.wild q.wild) (canonical_order p.base q.base) rest) in
    let base : p.base ≡ q.base = same_base p.base q.base is_p.is_lower_case is_q.is_lower_case (then_second (bool_cmp p.wild q.wild) (canonical_order p.base q.base) rest) in
    λ i. record { base = base i; wild = wild i }

-- ---- triggers and ranks

same_place : AreApart → (t u : Trigger) → IsTrigger t → IsTrigger u → kind_number t ≡ kind_number u → place_order t u ≡ Equal → t ≡ u
same_place apart (ClientIp p) (ClientIp q) is_t is_u kind e = ap ClientIp (same_prefix p q e)
same_place apart (Qname p) (Qname q) is_t is_u kind e = ap Qname (same_pattern apart p q is_t is_u e)
same_place apart (ResponseIp p) (ResponseIp q) is_t is_u kind e = ap ResponseIp (same_prefix p q e)
same_place apart (NsDname p) (NsDname q) is_t is_u kind e = ap NsDname (same_server p q is_t is_u e)
same_place apart (NsIp p) (NsIp q) is_t is_u kind e = ap NsIp (same_prefix p q e)
same_place apart t u is_t is_u kind e = absurd (omega (arith, kind))

same_trigger : AreApart → (t u : Trigger) → IsTrigger t → IsTrigger u → trigger_order t u ≡ Equal → t ≡ u
same_trigger apart t u is_t is_u e =
    same_place apart t u is_t is_u (same_number _ _ (then_first (nat_cmp (kind_number t) (kind_number u)) (place_order t u) e)) (then_second (nat_cmp (kind_number t) (kind_number u)) (place_order t u) e)

pub same_rank : AreApart → (a b : PlainRank) → IsTrigger a.trigger → IsTrigger b.trigger → rank_order a b ≡ Equal → a ≡ b
same_rank apart a b is_a is_b e =
    let rest = then_second (nat_cmp a.position b.position) (ordering_then (nat_cmp a.zone b.zone) (trigger_order a.trigger b.trigger)) e in
    let position : a.position ≡ b.position = same_number _ _ (then_first (nat_cmp a.position b.position) _ e) in
    let zone : a.zone ≡ b.zone = same_number _ _ (then_first (nat_cmp a.zone b.zone) (trigger_order a.trigger b.trigger) rest) in
    let trigger : a.trigger ≡ b.trigger = same_trigger apart a.trigger b.trigger is_a is_b (then_second (nat_cmp a.zone b.zone) (trigger_order a.trigger b.trigger) rest) in
    λ i. record { position = position i; zone = zone i; trigger = trigger i }
