-- Whether some rule that could decide needs something is told zone by zone, from the kinds of rules that each zone has.
use Rattle.std.proofs.Common.{◌≡◌, ℕ, ◌+◌, ◌==◌, Bool, true, false, not, ◌&&◌, ◌||◌, ◌↔◌, Option, Some, None, is_some, List, [], ◌∷◌, map, refl, sym, ap, ◌∙◌, arith, nat_lt, eqb-true, true≢false, cond}
use Rattle.std.specs.Prelude.{All, nat_le}
use Rattle.std.proofs.Math.Bool.{or-false, or-true}
use Rattle.std.proofs.lemmas.Bool.Decides.{nat_tests}
use Rattle.std.proofs.lemmas.List.Folds.{list_any-append}
use Rattle.std.specs.Cmp.{both_ways}
use Rattle.std.specs.List.{Contains, list_any}
use Rattle.std.specs.Ordering.{nat_cmp, ordering_then, is_gt}
use Rattle.dns_record.specs.Record.{PlainRecord}
use Rattle.dns_record.specs.Row.{PlainRow, IsRow}
use Rattle.dns_record.specs.Soa.{soa_record}
use Rattle.dns_message.specs.declared.question.Question.{Question}
use Rattle.dns_message.specs.declared.request.Query.{Query}
use Rattle.zone_rows.specs.declared.zone.Content.{Content}
use Rattle.zone_rows.specs.declared.zone.PlainZone.{PlainZone}
use Rattle.trigger_codec.specs.declared.trigger.Kind.{Kind}
use Rattle.trigger_codec.specs.declared.trigger.Kind.TheVariants as kinds
use Rattle.trigger_codec.specs.declared.trigger.Trigger.{Trigger}
use Rattle.trigger_codec.specs.declared.trigger.Trigger.TheVariants.{ClientIp, Qname, ResponseIp, NsDname, NsIp}
use Rattle.action_codec.specs.declared.action.Action.{Action}
use Rattle.zone_index.specs.Addresses.{has_some}
use Rattle.zone_index.specs.Indexed.{HasRows}
use Rattle.zone_index.specs.Kinds.{PlainRules, has_kind}
use Rattle.zone_index.specs.Listed.{rules_by_kind, with_triggers, zone_rules}
use Rattle.zone_index.specs.Rules.{rules_of}
use Rattle.rpz_precedence.specs.Best.{PlainHit}
use Rattle.rpz_precedence.specs.Rank.{kind_number}
use Rattle.trigger_codec.specs.Kind.{kind_place}
use Rattle.upstream_link.specs.Facts.{PlainFacts}
use Rattle.upstream_link.specs.Question.{main_question}
use Rattle.policy_snapshot.specs.Lookup.{has_kind_in, kind_could_decide, kind_could_rule, zones_need}
use Rattle.policy_snapshot.specs.Next.{needs_answer, needs_servers, needs_addresses, could_decide, is_needed, first_unknown, server_questions, unknown_address, if_needed, or_question, pending}
use Rattle.policy_override.specs.declared.overrides.Override.{Override}
use Rattle.policy_override.specs.Override.{is_ruling}
use Rattle.policy_override.specs.Overrides.{over_at}
use Rattle.policy_snapshot.specs.Policy.{PlainPolicy}
use Rattle.policy_snapshot.specs.Rules.{PlainRule, content_rules, rule_under, rules, rules_from, rules_under}
use Rattle.policy_snapshot.specs.Stands.{HaveRows}
use Rattle.policy_snapshot.proofs.Members.{here, there}
use Rattle.policy_snapshot.proofs.ListTests.{any_at, any_same}
use Rattle.policy_snapshot.proofs.RuleRanks.{rule_with}

-- what the law of an index says of the rules of a zone, as one premise
pub record IndexLaw : Type 0 where
  pub listed : (origin : List (List ℕ)) (rows : List PlainRow) → All IsRow rows → (rule : Trigger × Action) → Contains (zone_rules origin rows) rule ↔ Contains (rules_by_kind (rules_of origin rows)) rule

-- ---- tests that some element passes

module _ {X : Type 0} (p : X → Bool) where
  any_first : (b : Bool) (x : X) (xs : List X) (c : Bool) → p x ≡ b → (list_any p xs ≡ true → c ≡ true) → (p x ≡ true → c ≡ true) → (b || list_any p xs) ≡ true → c ≡ true
  any_first true x xs c e rest own t = own e
  any_first false x xs c e rest own t = rest t

  -- where some element passes, what follows from each that does holds
  any_then : (xs : List X) (c : Bool) → ((x : X) → Contains xs x → p x ≡ true → c ≡ true) → list_any p xs ≡ true → c ≡ true
  any_then [] c follows t = absurd (true≢false (sym t))
  any_then (x ∷ xs) c follows t = any_first (p x) x xs c refl (any_then xs c (λ y at. follows y (there x xs y at))) (follows x (here x xs)) t

  -- lists of the same elements pass a test alike
  any_members : (xs ys : List X) → ((x : X) → Contains xs x ↔ Contains ys x) → list_any p xs ≡ list_any p ys
  any_members xs ys same =
      both_ways (list_any p xs) (list_any p ys) (any_then xs (list_any p ys) (λ x at t. any_at p ys x ((same x).0 at) t)) (any_then ys (list_any p xs) (λ x at t. any_at p xs x ((same x).1 at) t))

  both_or : (a b c : Bool) → ((a && c) || (b && c)) ≡ ((a || b) && c)
  both_or true true true = refl
  both_or true true false = refl
  both_or true false true = refl
  both_or true false false = refl
  both_or false b c = refl

  any_both : (b : Bool) (xs : List X) → list_any (λ x. p x && b) xs ≡ (list_any p xs && b)
  any_both b [] = refl
  any_both b (x ∷ xs) = ap (λ (c : Bool). (p x && b) || c) (any_both b xs) ∙ both_or (p x) (list_any p xs) b

-- ---- the rules of a kind in an index

abbrev is_of_kind : Kind → Trigger → Bool
is_of_kind kind t = kind_number t == kind_place kind

module _ {K : Type 0} (p : Trigger × Action → Bool) (trigger : K → Trigger) where
  any_own : (es : List (K × Action)) → ((e : K × Action) → p (trigger e.0, e.1) ≡ true) → list_any p (with_triggers trigger es) ≡ has_some es
  any_own [] own = refl
  any_own (e ∷ es) own = ap (λ (b : Bool). b || list_any p (with_triggers trigger es)) (own e)

  any_other : (es : List (K × Action)) → ((e : K × Action) → p (trigger e.0, e.1) ≡ false) → list_any p (with_triggers trigger es) ≡ false
  any_other [] other = refl
  any_other (e ∷ es) other = ap (λ (b : Bool). b || list_any p (with_triggers trigger es)) (other e) ∙ any_other es other

module _ (rules : PlainRules) where
  -- what each kind of rules gives, one after another
  by_kinds : (p : Trigger × Action → Bool) → list_any p (rules_by_kind rules)
      ≡ (list_any p (with_triggers ClientIp rules.client_ip)
      || (list_any p (with_triggers Qname rules.qname)
      || (list_any p (with_triggers ResponseIp rules.response_ip)
      || (list_any p (with_triggers NsDname rules.nsdname)
      || list_any p (with_triggers NsIp rules.nsip)))))
  by_kinds p =
      list_any-append p (with_triggers ClientIp rules.client_ip) _
      ∙ ap (λ (b : Bool). list_any p (with_triggers ClientIp rules.client_ip) || b)
      (list_any-append p (with_triggers Qname rules.qname) _
      ∙ ap (λ (b : Bool). list_any p (with_triggers Qname rules.qname) || b)
      (list_any-append p (with_triggers ResponseIp rules.response_ip) _
      ∙ ap (λ (b : Bool). list_any p (with_triggers ResponseIp rules.response_ip) || b)
      (list_any-append p (with_triggers NsDname rules.nsdname) (with_triggers NsIp rules.nsip))))

  pieces : (p : Trigger × Action → Bool) (a b c d e : Bool)
      → list_any p (with_triggers ClientIp rules.client_ip) ≡ a → list_any p (with_triggers Qname rules.qname) ≡ b → list_any p (with_triggers ResponseIp rules.response_ip) ≡ c
      → list_any p (with_triggers NsDname rules.nsdname) ≡ d → list_any p (with_triggers NsIp rules.nsip) ≡ e → list_any p (rules_by_kind rules) ≡ (a || (b || (c || (d || e))))
  pieces p a b c d e f g h j k = by_kinds p ∙ (λ i. f i || (g i || (h i || (j i || k i))))

  abbrev own_test : Kind → Trigger × Action → Bool
  own_test kind r = is_of_kind kind r.0

  -- there is a rule of the kind in the list exactly where the index has one
  kind_listed : (kind : Kind) → list_any (own_test kind) (rules_by_kind rules) ≡ has_kind rules kind
  kind_listed kinds.ClientIp =
      let p = own_test kinds.ClientIp in
      pieces p (has_some rules.client_ip) false false false false
      (any_own p ClientIp rules.client_ip (λ e. refl)) (any_other p Qname rules.qname (λ e. refl)) (any_other p ResponseIp rules.response_ip (λ e. refl))
      (any_other p NsDname rules.nsdname (λ e. refl)) (any_other p NsIp rules.nsip (λ e. refl))
      ∙ or-false (has_some rules.client_ip)
  kind_listed kinds.Qname =
      let p = own_test kinds.Qname in
      pieces p false (has_some rules.qname) false false false
      (any_other p ClientIp rules.client_ip (λ e. refl)) (any_own p Qname rules.qname (λ e. refl)) (any_other p ResponseIp rules.response_ip (λ e. refl))
      (any_other p NsDname rules.nsdname (λ e. refl)) (any_other p NsIp rules.nsip (λ e. refl))
      ∙ or-false (has_some rules.qname)
  kind_listed kinds.ResponseIp =
      let p = own_test kinds.ResponseIp in
      pieces p false false (has_some rules.response_ip) false false
      (any_other p ClientIp rules.client_ip (λ e. refl)) (any_other p Qname rules.qname (λ e. refl)) (any_own p ResponseIp rules.response_ip (λ e. refl))
      (any_other p NsDname rules.nsdname (λ e. refl)) (any_other p NsIp rules.nsip (λ e. refl))
      ∙ or-false (has_some rules.response_ip)
  kind_listed kinds.NsDname =
      let p = own_test kinds.NsDname in
      pieces p false false false (has_some rules.nsdname) false
      (any_other p ClientIp rules.client_ip (λ e. refl)) (any_other p Qname rules.qname (λ e. refl)) (any_other p ResponseIp rules.response_ip (λ e. refl))
      (any_own p NsDname rules.nsdname (λ e. refl)) (any_other p NsIp rules.nsip (λ e. refl))
      ∙ or-false (has_some rules.nsdname)
  kind_listed kinds.NsIp =
      let p = own_test kinds.NsIp in
      pieces p false false false false (has_some rules.nsip)
      (any_other p ClientIp rules.client_ip (λ e. refl)) (any_other p Qname rules.qname (λ e. refl)) (any_other p ResponseIp rules.response_ip (λ e. refl))
      (any_other p NsDname rules.nsdname (λ e. refl)) (any_own p NsIp rules.nsip (λ e. refl))

-- ---- zones

-- by zone, then by kind
not_after : (number zone own kind : ℕ) → not (is_gt (ordering_then (nat_cmp number zone) (nat_cmp own kind))) ≡ (nat_lt number zone || (number == zone && nat_le own kind))
not_after number zone own kind = grind (arith, nat_tests)

any_mapped : {X Y : Type 0} (p : Y → Bool) (f : X → Y) (xs : List X) → list_any p (map f xs) ≡ list_any (λ x. p (f x)) xs
any_mapped p f [] = refl
any_mapped p f (x ∷ xs) = ap (λ (b : Bool). p (f x) || b) (any_mapped p f xs)

and_if : (b c d : Bool) → (b ≡ true → c ≡ d) → (b && c) ≡ (b && d)
and_if true c d e = e refl
and_if false c d e = refl

module _ (law : IndexLaw) (kind : Kind) where
  -- whether a rule of the kind could decide depends on its zone alone
  could_by_kind : (hit : Option PlainHit) (number : ℕ) (soa : PlainRecord) (r : Trigger × Action) → kind_number r.0 ≡ kind_place kind → could_decide hit (rule_with number soa r) ≡ kind_could_decide kind number hit
  could_by_kind None number soa r e = refl
  could_by_kind (Some hit) number soa r e =
      ap (λ (n : ℕ). not (is_gt (ordering_then (nat_cmp number hit.rank.zone) (nat_cmp n (kind_number hit.rank.trigger))))) e
      ∙ not_after number hit.rank.zone (kind_place kind) (kind_number hit.rank.trigger)

  abbrev test : Option PlainHit → PlainRule → Bool
  test hit rule = is_of_kind kind rule.trigger && could_decide hit rule

  content_needs : (hit : Option PlainHit) (number : ℕ) (origin : List (List ℕ)) (content : Option Content) → HasRows content
      → list_any (test hit) (content_rules number origin content) ≡ (has_kind_in kind origin content && kind_could_decide kind number hit)
  content_needs hit number origin None rows = refl
  content_needs hit number origin (Some content) rows =
      let soa = soa_record origin content.soa in
      let own = zone_rules origin content.rows in
      let index = rules_of origin content.rows in
      let could = kind_could_decide kind number hit in
      any_mapped (test hit) (rule_with number soa) own
      ∙ any_same (λ r. test hit (rule_with number soa r)) (λ r. is_of_kind kind r.0 && could) own
      (λ r at. and_if (is_of_kind kind r.0) (could_decide hit (rule_with number soa r)) could (λ t. could_by_kind hit number soa r (eqb-true (kind_number r.0) (kind_place kind) t)))
      ∙ any_both (own_test index kind) could own
      ∙ ap (λ (b : Bool). b && could) (any_members (own_test index kind) own (rules_by_kind index) (law.listed origin content.rows rows) ∙ kind_listed index kind)

  -- an override leaves the zone and the trigger of a rule
  could_under : (hit : Option PlainHit) (over : Override) (rule : PlainRule) → could_decide hit (rule_under over rule) ≡ could_decide hit rule
  could_under None over rule = refl
  could_under (Some hit) over rule = refl

  under_if : (b : Bool) (hit : Option PlainHit) (over : Override) (own : List PlainRule) → list_any (test hit) (cond b (map (rule_under over) own) []) ≡ (b && list_any (test hit) own)
  under_if true hit over own =
      any_mapped (test hit) (rule_under over) own
      ∙ any_same (λ r. test hit (rule_under over r)) (test hit) own (λ r at. ap (λ (c : Bool). is_of_kind kind r.trigger && c) (could_under hit over r))
  under_if false hit over own = refl

  swapped : (a b c : Bool) → (a && (b && c)) ≡ (b && (a && c))
  swapped true b c = refl
  swapped false true c = refl
  swapped false false c = refl

  ruled_needs : (overrides : List Override) (hit : Option PlainHit) (number : ℕ) (zone : PlainZone) → HasRows zone.content
      → list_any (test hit) (rules_under (over_at overrides number) (content_rules number zone.origin zone.content)) ≡ (has_kind_in kind zone.origin zone.content && kind_could_rule overrides kind number hit)
  ruled_needs overrides hit number zone rows =
      let ruling = is_ruling (over_at overrides number) in
      under_if ruling hit (over_at overrides number) (content_rules number zone.origin zone.content)
      ∙ ap (λ (b : Bool). ruling && b) (content_needs hit number zone.origin zone.content rows)
      ∙ swapped ruling (has_kind_in kind zone.origin zone.content) (kind_could_decide kind number hit)

  needs_from : (overrides : List Override) (hit : Option PlainHit) (number : ℕ) (zones : List PlainZone) → HaveRows zones → list_any (test hit) (rules_from overrides number zones) ≡ zones_need overrides kind number hit zones
  needs_from overrides hit number [] rows = refl
  needs_from overrides hit number (zone ∷ zones) rows =
      list_any-append (test hit) (rules_under (over_at overrides number) (content_rules number zone.origin zone.content)) (rules_from overrides (number + 1) zones)
      ∙ (λ i. ruled_needs overrides hit number zone rows.0 i || needs_from overrides hit (number + 1) zones rows.1 i)

-- ---- what is needed

answer_kind : (t : Trigger) → needs_answer t ≡ is_of_kind kinds.ResponseIp t
answer_kind (ClientIp p) = refl
answer_kind (Qname p) = refl
answer_kind (ResponseIp p) = refl
answer_kind (NsDname p) = refl
answer_kind (NsIp p) = refl

servers_kind : (t : Trigger) → needs_servers t ≡ (is_of_kind kinds.NsDname t || is_of_kind kinds.NsIp t)
servers_kind (ClientIp p) = refl
servers_kind (Qname p) = refl
servers_kind (ResponseIp p) = refl
servers_kind (NsDname p) = refl
servers_kind (NsIp p) = refl

addresses_kind : (t : Trigger) → needs_addresses t ≡ is_of_kind kinds.NsIp t
addresses_kind (ClientIp p) = refl
addresses_kind (Qname p) = refl
addresses_kind (ResponseIp p) = refl
addresses_kind (NsDname p) = refl
addresses_kind (NsIp p) = refl

either_apart : (a b c d e : Bool) → (((a || b) && c) || (d || e)) ≡ (((a && c) || d) || ((b && c) || e))
either_apart true b true d e = refl
either_apart true true false d e = refl
either_apart true false false d e = refl
either_apart false true true d e = sym (or-true d)
either_apart false true false d e = refl
either_apart false false c d e = refl

needed_either : (p q : Trigger → Bool) (hit : Option PlainHit) (all : List PlainRule) → is_needed (λ t. p t || q t) all hit ≡ (is_needed p all hit || is_needed q all hit)
needed_either p q hit [] = refl
needed_either p q hit (rule ∷ all) =
    ap (λ (b : Bool). ((p rule.trigger || q rule.trigger) && could_decide hit rule) || b) (needed_either p q hit all)
    ∙ either_apart (p rule.trigger) (q rule.trigger) (could_decide hit rule) (is_needed p all hit) (is_needed q all hit)

or_first : (question other : Option Question) → is_some question ≡ true → question ≡ or_question question other
or_first None other t = absurd (true≢false (sym t))
or_first (Some question) other t = refl

or_second : (question other : Option Question) → is_some question ≡ false → other ≡ or_question question other
or_second None other t = refl
or_second (Some question) other t = absurd (true≢false t)

abbrev main_part : PlainPolicy → Query → PlainFacts → Option PlainHit → Option Question
main_part policy query facts hit = if_needed (zones_need policy.overrides kinds.ResponseIp 1 hit policy.zones) (first_unknown facts (main_question query ∷ []))

abbrev owner_part : PlainPolicy → PlainFacts → List (List ℕ) → Option PlainHit → Option Question
owner_part policy facts name hit = if_needed (zones_need policy.overrides kinds.NsDname 1 hit policy.zones || zones_need policy.overrides kinds.NsIp 1 hit policy.zones) (first_unknown facts (server_questions name))

abbrev pub address_part : PlainPolicy → PlainFacts → List (List ℕ) → Option PlainHit → Option Question
address_part policy facts name hit = if_needed (zones_need policy.overrides kinds.NsIp 1 hit policy.zones) (unknown_address facts name)

module _ (law : IndexLaw) (policy : PlainPolicy) (rows : HaveRows policy.zones) (query : Query) (facts : PlainFacts) (name : List (List ℕ)) (hit : Option PlainHit) where
  answer_needed : is_needed needs_answer (rules policy) hit ≡ zones_need policy.overrides kinds.ResponseIp 1 hit policy.zones
  answer_needed = ap (λ (needs : Trigger → Bool). is_needed needs (rules policy) hit) (λ i t. answer_kind t i) ∙ needs_from law kinds.ResponseIp policy.overrides hit 1 policy.zones rows

  servers_needed : is_needed needs_servers (rules policy) hit ≡ (zones_need policy.overrides kinds.NsDname 1 hit policy.zones || zones_need policy.overrides kinds.NsIp 1 hit policy.zones)
  servers_needed =
      ap (λ (needs : Trigger → Bool). is_needed needs (rules policy) hit) (λ i t. servers_kind t i)
      ∙ needed_either (is_of_kind kinds.NsDname) (is_of_kind kinds.NsIp) hit (rules policy)
      ∙ (λ i. needs_from law kinds.NsDname policy.overrides hit 1 policy.zones rows i || needs_from law kinds.NsIp policy.overrides hit 1 policy.zones rows i)

  addresses_needed : is_needed needs_addresses (rules policy) hit ≡ zones_need policy.overrides kinds.NsIp 1 hit policy.zones
  addresses_needed = ap (λ (needs : Trigger → Bool). is_needed needs (rules policy) hit) (λ i t. addresses_kind t i) ∙ needs_from law kinds.NsIp policy.overrides hit 1 policy.zones rows

  parts : or_question (main_part policy query facts hit) (or_question (owner_part policy facts name hit) (address_part policy facts name hit)) ≡ pending (rules policy) query facts name hit
  parts = λ i.
      or_question (if_needed (sym answer_needed i) (first_unknown facts (main_question query ∷ [])))
      (or_question (if_needed (sym servers_needed i) (first_unknown facts (server_questions name))) (if_needed (sym addresses_needed i) (unknown_address facts name)))

  -- what is asked first, second and last
  pub main_asked : (main : Option Question) → main ≡ main_part policy query facts hit → is_some main ≡ true → main ≡ pending (rules policy) query facts name hit
  main_asked main e t = or_first main (or_question (owner_part policy facts name hit) (address_part policy facts name hit)) t ∙ ap (λ (q : Option Question). or_question q (or_question (owner_part policy facts name hit) (address_part policy facts name hit))) e ∙ parts

  later : (main rest : Option Question) → main ≡ main_part policy query facts hit → is_some main ≡ false → rest ≡ or_question (owner_part policy facts name hit) (address_part policy facts name hit) → rest ≡ pending (rules policy) query facts name hit
  later main rest e t f = or_second main rest t ∙ (λ i. or_question (e i) (f i)) ∙ parts

  pub owner_asked : (main owner : Option Question) → main ≡ main_part policy query facts hit → is_some main ≡ false → owner ≡ owner_part policy facts name hit → is_some owner ≡ true → owner ≡ pending (rules policy) query facts name hit
  owner_asked main owner e t f u = later main owner e t (or_first owner (address_part policy facts name hit) u ∙ ap (λ (q : Option Question). or_question q (address_part policy facts name hit)) f)

  pub address_asked : (main owner address : Option Question) → main ≡ main_part policy query facts hit → is_some main ≡ false → owner ≡ owner_part policy facts name hit → is_some owner ≡ false → address ≡ address_part policy facts name hit → address ≡ pending (rules policy) query facts name hit
  address_asked main owner address e t f u g = later main address e t (or_second owner address u ∙ (λ i. or_question (f i) (g i)))
