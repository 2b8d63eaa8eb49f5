-- The best hit among the rules of one zone: kind by kind.
use Rattle.std.proofs.Common.{◌≡◌, ℕ, ◌==◌, Bool, true, false, ◌&&◌, None, List, [], ◌∷◌, ◌++◌, map, ⊎_elim, refl, sym, ap, subst, ◌∙◌}
use Rattle.std.specs.Cmp.{nat_cmp_total, tied_itself}
use Rattle.std.specs.List.{find, list_any, flat_map}
use Rattle.std.specs.Option.{option_map}
use Rattle.std.specs.Ordering.{nat_cmp, ordering_then, is_lt}
use Rattle.std.specs.Prelude.{filter, if◌then◌else◌}
use Rattle.std.specs.declared.cmp.Ordering.{Ordering}
use Rattle.std.proofs.lemmas.List.{map-append}
use Rattle.std.proofs.lemmas.List.Elements.{filter-append, Contains-append_cases}
use Rattle.dns_name.specs.Alike.{PlainPattern, matches}
use Rattle.dns_record.specs.Record.{PlainRecord}
use Rattle.dns_message.specs.declared.request.Query.{Query}
use Rattle.ip_prefix.specs.declared.Addr.{Addr}
use Rattle.ip_prefix.specs.Prefix.{PlainPrefix, prefix_order, contains}
use Rattle.prefix_index.proofs.Order.{prefix_order_total}
use Rattle.qname_index.specs.Best.{pattern_order}
use Rattle.trigger_codec.specs.declared.trigger.Trigger.{Trigger}
use Rattle.trigger_codec.specs.declared.trigger.Trigger.TheVariants.{ClientIp, Qname, ResponseIp, NsDname, NsIp}
use Rattle.action_codec.specs.declared.action.Action.{Action}
use Rattle.zone_index.specs.Addresses.{holds_within}
use Rattle.zone_index.specs.Kinds.{PlainRules}
use Rattle.zone_index.specs.Laws.{IsInOrder}
use Rattle.zone_index.specs.Listed.{rules_by_kind, with_triggers}
use Rattle.zone_index.proofs.SameAction.{pattern_order_total}
use Rattle.rpz_precedence.specs.Best.{PlainHit, IsBest}
use Rattle.rpz_precedence.specs.Rank.{precedes, trigger_order}
use Rattle.upstream_link.specs.Facts.{PlainFacts, main_records}
use Rattle.upstream_link.specs.Known.{HaveSameMembers}
use Rattle.upstream_link.specs.Servers.{addresses_of, servers}
use Rattle.policy_snapshot.specs.Rules.{PlainRule}
use Rattle.policy_snapshot.specs.Hits.{is_hit, hit_at, hits}
use Rattle.policy_snapshot.specs.Lookup.{entry_hit, client_hit, index_hit}
use Rattle.policy_snapshot.specs.Sight.{sight_of}
use Rattle.policy_snapshot.proofs.BestHits.{ComesBefore, RankLaws, best_of_both}
use Rattle.policy_snapshot.proofs.OneKind.{kind_rules, entry_of, best_of_kind, best_over_kind, best_over_lists}
use Rattle.policy_snapshot.proofs.RuleRanks.{rule_with}
use Rattle.policy_snapshot.proofs.SightLemmas.{any_member, some_address}

-- of two ranks in one zone the order is that of their triggers
pub in_one_zone : (position number : ℕ) (t u : Trigger)
    → precedes (record { position = position; zone = number; trigger = t }) (record { position = position; zone = number; trigger = u }) ≡ is_lt (trigger_order t u)
in_one_zone position number t u =
    ap (λ (c : Ordering). is_lt (ordering_then c (ordering_then (nat_cmp number number) (trigger_order t u)))) (tied_itself nat_cmp_total position)
    ∙ ap (λ (c : Ordering). is_lt (ordering_then c (trigger_order t u))) (tied_itself nat_cmp_total number)

-- the order of the index of patterns of servers, for one server
abbrev pub OneServer : Type 0
OneServer = (position zone : ℕ) (p q : PlainPattern) (server : List (List ℕ)) → matches p server ≡ true → matches q server ≡ true → is_lt (pattern_order q p) ≡ false
    → precedes (record { position = position; zone = zone; trigger = NsDname q }) (record { position = position; zone = zone; trigger = NsDname p }) ≡ false

-- hits of a list that stand before those of two stand before those of both together
before_both : (first second third : List PlainHit) → ComesBefore first second → ComesBefore first third → ComesBefore first (second ++ third)
before_both first second third h k a b at_a at_b = ⊎_elim (λ l. h a b at_a l) (λ r. k a b at_a r) (Contains-append_cases second third b at_b)

-- a test that counts under a condition
if_tested : {X Y : Type 0} (b : Bool) (p : X → Bool) (f : X → Y) (xs : List X) → option_map f (find (λ x. b && p x) xs) ≡ (if b then option_map f (find p xs) else None)
if_tested true p f xs = refl
if_tested false p f [] = refl
if_tested false p f (x ∷ xs) = if_tested false p f xs

pub hits-append : (query : Query) (facts : PlainFacts) (position : ℕ) (name : List (List ℕ)) (first second : List PlainRule)
    → hits (first ++ second) query facts position name ≡ hits first query facts position name ++ hits second query facts position name
hits-append query facts position name first second =
    ap (map (hit_at position)) (filter-append (λ (r : PlainRule). is_hit query facts position name r.trigger) first second)
    ∙ map-append (hit_at position) (filter (λ (r : PlainRule). is_hit query facts position name r.trigger) first) (filter (λ (r : PlainRule). is_hit query facts position name r.trigger) second)

module _ (ranks : RankLaws) (one_server : OneServer) (query : Query) (facts : PlainFacts) (position : ℕ) (name : List (List ℕ)) (number : ℕ) (soa : PlainRecord) where
  -- the rules of an index
  abbrev pub index_rules : PlainRules → List PlainRule
  index_rules rules = map (rule_with number soa) (rules_by_kind rules)

  abbrev hits_of : {K : Type 0} → (K → Trigger) → List (K × Action) → List PlainHit
  hits_of kind es = hits (kind_rules number soa kind es) query facts position name

  -- the hits of one kind come before those of another
  kinds_apart : {K L : Type 0} (first : K → Trigger) (second : L → Trigger) (es : List (K × Action)) (fs : List (L × Action)) → ((k : K) (l : L) → is_lt (trigger_order (second l) (first k)) ≡ false)
      → ComesBefore (hits_of first es) (hits_of second fs)
  kinds_apart first second es fs later a b at_a at_b =
      let x = entry_of query facts position name number soa first es a at_a in
      let y = entry_of query facts position name number soa second fs b at_b in
      ap (λ (h : PlainHit). precedes h.rank a.rank) (sym y.is)
      ∙ ap (λ (h : PlainHit). precedes (entry_hit second position number soa y.entry).rank h.rank) (sym x.is)
      ∙ in_one_zone position number (second y.entry.0) (first x.entry.0)
      ∙ later x.entry.0 y.entry.0

  parts : (rules : PlainRules)
      → hits (index_rules rules) query facts position name
      ≡ hits_of ClientIp rules.client_ip ++ (hits_of Qname rules.qname ++ (hits_of ResponseIp rules.response_ip ++ (hits_of NsDname rules.nsdname ++ hits_of NsIp rules.nsip)))
  parts rules =
      let clients = with_triggers ClientIp rules.client_ip in
      let names = with_triggers Qname rules.qname in
      let answers = with_triggers ResponseIp rules.response_ip in
      let servers = with_triggers NsDname rules.nsdname in
      let addresses = with_triggers NsIp rules.nsip in
      let with_number = map (rule_with number soa) in
      let split : (a b : List (Trigger × Action)) → hits (with_number (a ++ b)) query facts position name ≡ hits (with_number a) query facts position name ++ hits (with_number b) query facts position name =
      λ a b. ap (λ (l : List PlainRule). hits l query facts position name) (map-append (rule_with number soa) a b) ∙ hits-append query facts position name (with_number a) (with_number b) in
      split clients (names ++ (answers ++ (servers ++ addresses)))
      ∙ ap (λ (l : List PlainHit). hits_of ClientIp rules.client_ip ++ l)
      (split names (answers ++ (servers ++ addresses))
      ∙ ap (λ (l : List PlainHit). hits_of Qname rules.qname ++ l)
      (split answers (servers ++ addresses) ∙ ap (λ (l : List PlainHit). hits_of ResponseIp rules.response_ip ++ l) (split servers addresses)))

  -- the best hit among the rules of an index is that which code finds by lists of the servers and by their addresses
  pub best_in_index : (lists : List (List (List (List ℕ)))) (all : List Addr) → HaveSameMembers (flat_map (λ list. list) lists) (servers facts name) → HaveSameMembers all (addresses_of facts (servers facts name))
      → (rules : PlainRules) → IsInOrder rules → IsBest (hits (index_rules rules) query facts position name) (index_hit number soa (sight_of query facts position name lists all) rules)
  best_in_index lists all same_names same_addresses rules s =
      let in_zone = in_one_zone position number in
      let found_clients = best_of_kind query facts position name number soa ClientIp prefix_order prefix_order_total (λ e. position == 0 && contains e.0 query.client) rules.client_ip (λ e. refl)
      (λ a b ta tb h. in_zone (ClientIp a.0) (ClientIp b.0) ∙ h) s.client_ip in
      let clients : IsBest (hits_of ClientIp rules.client_ip) (client_hit number soa (sight_of query facts position name lists all) rules) =
      subst (IsBest (hits_of ClientIp rules.client_ip)) (if_tested (position == 0) (λ e. contains e.0 query.client) (entry_hit ClientIp position number soa) rules.client_ip) found_clients in
      let names = best_of_kind query facts position name number soa Qname pattern_order pattern_order_total (λ e. matches e.0 name) rules.qname (λ e. refl) (λ a b ta tb h. in_zone (Qname a.0) (Qname b.0) ∙ h) s.qname in
      let answers = best_of_kind query facts position name number soa ResponseIp prefix_order prefix_order_total (λ e. list_any (holds_within e.0 name) (main_records query facts)) rules.response_ip (λ e. refl)
      (λ a b ta tb h. in_zone (ResponseIp a.0) (ResponseIp b.0) ∙ h) s.response_ip in
      let server_names = best_over_lists query facts position name number soa NsDname ranks pattern_order pattern_order_total (λ (server : List (List ℕ)) (e : PlainPattern × Action). matches e.0 server) rules.nsdname lists
      (λ e. sym (any_member (matches e.0) (flat_map (λ list. list) lists) (servers facts name) same_names)) (λ server a b ta tb h. one_server position number b.0 a.0 server tb ta h) s.nsdname in
      let addresses = best_over_kind query facts position name number soa NsIp ranks prefix_order prefix_order_total (λ (addr : Addr) (e : PlainPrefix × Action). contains e.0 addr) rules.nsip all
      (λ e. some_address facts e.0 (servers facts name) ∙ sym (any_member (contains e.0) all (addresses_of facts (servers facts name)) same_addresses)) (λ addr a b ta tb h. in_zone (NsIp a.0) (NsIp b.0) ∙ h) s.nsip in
      let ds = hits_of NsDname rules.nsdname in
      let is = hits_of NsIp rules.nsip in
      let rs = hits_of ResponseIp rules.response_ip in
      let qs = hits_of Qname rules.qname in
      let last = best_of_both ds is _ _ server_names addresses (kinds_apart NsDname NsIp rules.nsdname rules.nsip (λ k l. refl)) in
      let third = best_of_both rs (ds ++ is) _ _ answers last
      (before_both rs ds is (kinds_apart ResponseIp NsDname rules.response_ip rules.nsdname (λ k l. refl)) (kinds_apart ResponseIp NsIp rules.response_ip rules.nsip (λ k l. refl))) in
      let second = best_of_both qs (rs ++ (ds ++ is)) _ _ names third
      (before_both qs rs (ds ++ is) (kinds_apart Qname ResponseIp rules.qname rules.response_ip (λ k l. refl))
      (before_both qs ds is (kinds_apart Qname NsDname rules.qname rules.nsdname (λ k l. refl)) (kinds_apart Qname NsIp rules.qname rules.nsip (λ k l. refl)))) in
      let first = before_both (hits_of ClientIp rules.client_ip) qs (rs ++ (ds ++ is)) (kinds_apart ClientIp Qname rules.client_ip rules.qname (λ k l. refl))
      (before_both (hits_of ClientIp rules.client_ip) rs (ds ++ is) (kinds_apart ClientIp ResponseIp rules.client_ip rules.response_ip (λ k l. refl))
      (before_both (hits_of ClientIp rules.client_ip) ds is (kinds_apart ClientIp NsDname rules.client_ip rules.nsdname (λ k l. refl)) (kinds_apart ClientIp NsIp rules.client_ip rules.nsip (λ k l. refl)))) in
      subst (λ (l : List PlainHit). IsBest l (index_hit number soa (sight_of query facts position name lists all) rules)) (sym (parts rules)) (best_of_both (hits_of ClientIp rules.client_ip) (qs ++ (rs ++ (ds ++ is))) _ _ clients second first)
