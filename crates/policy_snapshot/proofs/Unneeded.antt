-- Servers and their addresses don't matter where no zone has rules about them.
use Rattle.std.proofs.Common.{◌≡◌, ℕ, ◌+◌, Bool, true, false, ◌&&◌, ◌||◌, Option, Some, None, List, [], ◌∷◌, refl, sym, ap, subst, ◌∙◌, append-nil, arith, true≢false, cond}
use Rattle.std.specs.List.{Contains, flat_map}
use Rattle.std.specs.Option.{option_map}
use Rattle.std.specs.Prelude.{All, fold}
use Rattle.dns_message.specs.declared.request.Query.{Query}
use Rattle.dns_record.specs.Record.{PlainRecord}
use Rattle.dns_record.specs.Soa.{soa_record}
use Rattle.ip_prefix.specs.declared.Addr.{Addr}
use Rattle.zone_rows.specs.declared.zone.Content.{Content}
use Rattle.zone_rows.specs.declared.zone.PlainZone.{PlainZone}
use Rattle.trigger_codec.specs.declared.trigger.Kind.TheVariants.{NsDname, NsIp}
use Rattle.trigger_codec.specs.declared.trigger.Trigger.TheVariants.{Qname, ResponseIp}
use Rattle.zone_index.specs.Addresses.{first_about, has_some}
use Rattle.zone_index.specs.Kinds.{PlainRules}
use Rattle.zone_index.specs.Rules.{rules_of}
use Rattle.qname_index.specs.Best as names
use Rattle.upstream_link.specs.Facts.{PlainFacts}
use Rattle.upstream_link.specs.Known.{AreInOrder, AreListsOf, HaveSameMembers}
use Rattle.upstream_link.specs.Servers.{addresses_of, servers}
use Rattle.rpz_precedence.specs.Best.{PlainHit, AreHits, IsBest, best}
use Rattle.policy_snapshot.specs.Lookup.{entry_hit, or_hit, better, best_over, client_hit, server_hit, address_hit, content_hit, hit_under, ruled_hit, zones_hit, has_kind_in, zones_need, AreListsIf}
use Rattle.policy_snapshot.specs.Hits.{hits}
use Rattle.policy_override.specs.declared.overrides.Override.{Override}
use Rattle.policy_override.specs.Override.{is_ruling}
use Rattle.policy_override.specs.Overrides.{over_at}
use Rattle.policy_snapshot.specs.Policy.{PlainPolicy}
use Rattle.policy_snapshot.specs.Rules.{rules}
use Rattle.policy_snapshot.specs.Sight.{PlainSight, sight_of}
use Rattle.policy_snapshot.specs.Stands.{HaveRows}
use Rattle.policy_snapshot.proofs.AllZones.{Laws, found_is_best}
use Rattle.policy_snapshot.proofs.RuleRanks.{ZoneLaws}

-- ---- look-ups that find nothing

nothing_over : {X : Type 0} (look : X → Option PlainHit) (xs : List X) → ((x : X) → look x ≡ None) → best_over look xs ≡ None
nothing_over look [] none = refl
nothing_over look (x ∷ xs) none = ap (λ (h : Option PlainHit). fold (λ (f : Option PlainHit) (y : _). better f (look y)) (better None h) xs) (none x) ∙ nothing_over look xs none

nothing_in : {X : Type 0} (xs : List X) → has_some xs ≡ false → xs ≡ []
nothing_in [] e = refl
nothing_in (x ∷ xs) e = absurd (true≢false e)

no_servers : (position number : ℕ) (soa : PlainRecord) (rules : PlainRules) (lists : List (List (List (List ℕ)))) → has_some rules.nsdname ≡ false → best_over (best_over (server_hit position number soa rules)) lists ≡ None
no_servers position number soa rules lists e =
    nothing_over (best_over (server_hit position number soa rules)) lists (λ names. nothing_over (server_hit position number soa rules) names (λ server. rw (nothing_in rules.nsdname e) refl))

no_addresses : (position number : ℕ) (soa : PlainRecord) (rules : PlainRules) (all : List Addr) → has_some rules.nsip ≡ false → best_over (address_hit position number soa rules) all ≡ None
no_addresses position number soa rules all e = nothing_over (address_hit position number soa rules) all (λ addr. rw (nothing_in rules.nsip e) refl)

-- ---- other servers, other addresses

-- the same with other addresses, or with other servers too
abbrev pub with_addresses : PlainSight → List Addr → PlainSight
with_addresses s all = record { position = s.position; client = s.client; name = s.name; records = s.records; servers = s.servers; addresses = all }

abbrev pub with_servers : PlainSight → List (List (List (List ℕ))) → PlainSight
with_servers s names = record { position = s.position; client = s.client; name = s.name; records = s.records; servers = names; addresses = s.addresses }

either_false : (a b : Bool) → (a || b) ≡ false → (a ≡ false) × (b ≡ false)
either_false true b e = absurd (true≢false e)
either_false false b e = (refl, e)

with_true : (a : Bool) → (a && true) ≡ false → a ≡ false
with_true true e = absurd (true≢false e)
with_true false e = refl

-- what is found under an override is the same, where the zone isn't disabled and has rules that could make a difference, or none
same_under : (b has : Bool) (over : Override) (x y : Option PlainHit) → (has && (b && true)) ≡ false → (has ≡ false → x ≡ y) → cond b (option_map (hit_under over) x) None ≡ cond b (option_map (hit_under over) y) None
same_under true has over x y e same = ap (option_map (hit_under over)) (same (with_true has e))
same_under false has over x y e same = refl

-- what an index finds, from what it finds by servers and by their addresses
abbrev found_by : ℕ → PlainRecord → PlainSight → PlainRules → Option PlainHit → Option PlainHit → Option PlainHit
found_by number soa sight rules server address =
    or_hit (client_hit number soa sight rules)
    (or_hit (option_map (entry_hit Qname sight.position number soa) (names.best sight.name rules.qname))
    (or_hit (option_map (entry_hit ResponseIp sight.position number soa) (first_about sight.name sight.records rules.response_ip))
    (or_hit server address)))

module _ (s : PlainSight) where
  same_address_hit : (number : ℕ) (all : List Addr) (origin : List (List ℕ)) (content : Option Content) → has_kind_in NsIp origin content ≡ false → content_hit number (with_addresses s all) origin content ≡ content_hit number s origin content
  same_address_hit number all origin None e = refl
  same_address_hit number all origin (Some content) e =
      let soa = soa_record origin content.soa in
      let rules = rules_of origin content.rows in
      ap (found_by number soa s rules (best_over (best_over (server_hit s.position number soa rules)) s.servers))
      (no_addresses s.position number soa rules all e ∙ sym (no_addresses s.position number soa rules s.addresses e))

  same_server_hit : (number : ℕ) (all : List (List (List (List ℕ)))) (origin : List (List ℕ)) (content : Option Content) → has_kind_in NsDname origin content ≡ false → content_hit number (with_servers s all) origin content ≡ content_hit number s origin content
  same_server_hit number all origin None e = refl
  same_server_hit number all origin (Some content) e =
      let soa = soa_record origin content.soa in
      let rules = rules_of origin content.rows in
      ap (λ (h : Option PlainHit). found_by number soa s rules h (best_over (address_hit s.position number soa rules) s.addresses))
      (no_servers s.position number soa rules all e ∙ sym (no_servers s.position number soa rules s.servers e))

  same_by_addresses : (all : List Addr) (overrides : List Override) (number : ℕ) (zones : List PlainZone) → zones_need overrides NsIp number None zones ≡ false → zones_hit overrides number (with_addresses s all) zones ≡ zones_hit overrides number s zones
  same_by_addresses all overrides number [] e = refl
  same_by_addresses all overrides number (zone ∷ zones) e =
      let has = has_kind_in NsIp zone.origin zone.content in
      let over = over_at overrides number in
      let parts = either_false (has && (is_ruling over && true)) (zones_need overrides NsIp (number + 1) None zones) e in
      let here : ruled_hit overrides number (with_addresses s all) zone ≡ ruled_hit overrides number s zone = same_under (is_ruling over) has over (content_hit number (with_addresses s all) zone.origin zone.content) (content_hit number s zone.origin zone.content) parts.0 (same_address_hit number all zone.origin zone.content) in
      λ i. or_hit (here i) (same_by_addresses all overrides (number + 1) zones parts.1 i)

  same_by_servers : (all : List (List (List (List ℕ)))) (overrides : List Override) (number : ℕ) (zones : List PlainZone) → zones_need overrides NsDname number None zones ≡ false → zones_hit overrides number (with_servers s all) zones ≡ zones_hit overrides number s zones
  same_by_servers all overrides number [] e = refl
  same_by_servers all overrides number (zone ∷ zones) e =
      let has = has_kind_in NsDname zone.origin zone.content in
      let over = over_at overrides number in
      let parts = either_false (has && (is_ruling over && true)) (zones_need overrides NsDname (number + 1) None zones) e in
      let here : ruled_hit overrides number (with_servers s all) zone ≡ ruled_hit overrides number s zone = same_under (is_ruling over) has over (content_hit number (with_servers s all) zone.origin zone.content) (content_hit number s zone.origin zone.content) parts.0 (same_server_hit number all zone.origin zone.content) in
      λ i. or_hit (here i) (same_by_servers all overrides (number + 1) zones parts.1 i)

-- ---- what code looks at

itself : {X : Type 0} (xs : List X) → HaveSameMembers xs xs
itself xs = λ x. (λ at. at, λ at. at)

alone : {X : Type 0} (xs : List X) → HaveSameMembers (flat_map (λ list. list) (xs ∷ [])) xs
alone xs = λ x. (subst (λ l. Contains l x) (append-nil xs), subst (λ l. Contains l x) (sym (append-nil xs)))

module _ (laws : Laws) (zone_laws : ZoneLaws) (query : Query) (facts : PlainFacts) (position : ℕ) (name : List (List ℕ)) (policy : PlainPolicy) (rows : HaveRows policy.zones)
    (only : (all : List PlainHit) (found : Option PlainHit) → AreHits all → IsBest all found → found ≡ best all) where
  abbrev Found : List (List (List (List ℕ))) → List Addr → Type 0
  Found lists all = zones_hit policy.overrides 1 (sight_of query facts position name lists all) policy.zones ≡ best (hits (rules policy) query facts position name)

  -- the servers and addresses that are known, as they stand in the definitions
  abbrev own_names : List (List (List (List ℕ)))
  own_names = servers facts name ∷ []

  abbrev own_addresses : List Addr
  own_addresses = addresses_of facts (servers facts name)

  by_all : (lists : List (List (List (List ℕ)))) (all : List Addr) → AreListsOf lists (servers facts name) → HaveSameMembers all (addresses_of facts (servers facts name)) → Found lists all
  by_all lists all are same = found_is_best laws query facts position name lists all are.same same zone_laws policy rows only

  by_kinds : (has_names has_addresses : Bool) → zones_need policy.overrides NsDname 1 None policy.zones ≡ has_names → zones_need policy.overrides NsIp 1 None policy.zones ≡ has_addresses → (lists : List (List (List (List ℕ)))) (all : List Addr)
      → AreListsIf (has_names || has_addresses) lists (servers facts name) → (has_addresses ≡ true → (found : List (List (List ℕ))) → AreListsOf lists found → HaveSameMembers all (addresses_of facts found)) → (has_addresses ≡ false → all ≡ [])
      → Found lists all
  by_kinds true true d i lists all are same none = by_all lists all are (same refl (servers facts name) are)
  by_kinds false true d i lists all are same none = by_all lists all are (same refl (servers facts name) are)
  by_kinds true false d i lists all are same none =
      ap (λ (l : List Addr). zones_hit policy.overrides 1 (sight_of query facts position name lists l) policy.zones) (none refl)
      ∙ same_by_addresses (sight_of query facts position name lists own_addresses) [] policy.overrides 1 policy.zones i
      ∙ by_all lists own_addresses are (itself own_addresses)
  by_kinds false false d i lists all are same none =
      (λ k. zones_hit policy.overrides 1 (sight_of query facts position name (are k) (none refl k)) policy.zones)
      ∙ same_by_servers (sight_of query facts position name own_names []) [] policy.overrides 1 policy.zones d
      ∙ same_by_addresses (sight_of query facts position name own_names own_addresses) [] policy.overrides 1 policy.zones i
      ∙ found_is_best laws query facts position name own_names own_addresses (alone (servers facts name)) (itself own_addresses) zone_laws policy rows only

  -- the hit of what code looks at is the best one
  pub found : (lists : List (List (List (List ℕ)))) (all : List Addr) → AreListsIf (zones_need policy.overrides NsDname 1 None policy.zones || zones_need policy.overrides NsIp 1 None policy.zones) lists (servers facts name)
      → (zones_need policy.overrides NsIp 1 None policy.zones ≡ true → (found : List (List (List ℕ))) → AreListsOf lists found → HaveSameMembers all (addresses_of facts found)) → (zones_need policy.overrides NsIp 1 None policy.zones ≡ false → all ≡ []) → Found lists all
  found lists all are same none = by_kinds (zones_need policy.overrides NsDname 1 None policy.zones) (zones_need policy.overrides NsIp 1 None policy.zones) refl refl lists all are same none

-- the lists that code looks at are in order
pub lists_in_order : (b : Bool) (lists : List (List (List (List ℕ)))) (names : List (List (List ℕ))) → AreListsIf b lists names → All AreInOrder lists
lists_in_order true lists names are = are.order
lists_in_order false lists names are = subst (All AreInOrder) (sym are) (λ k d lt. absurd (omega (arith, lt)))
