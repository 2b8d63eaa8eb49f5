-- The entries of the index of a zone are the rules of the zone.
use Rattle.std.proofs.Common.{◌≡◌, inl, inr, ◌↔◌, ℕ, Bool, true, false, cond, Option, Some, None, List, [], ◌∷◌, ◌++◌, refl, sym, ap, subst, ◌∙◌, arith}
use Rattle.std.specs.BTreeMap.{is_at}
use Rattle.std.specs.Cmp.{IsTotalOrder}
use Rattle.std.specs.List.{All, AllByRecursion, Contains}
use Rattle.std.specs.List.Sorted.{IsStrictlySortedBy}
use Rattle.std.specs.Map.{keys_of, lookup}
use Rattle.std.specs.Ordering.{is_eq, ordering_reverse}
use Rattle.std.specs.declared.cmp.Ordering.{Ordering}
use Rattle.std.specs.declared.cmp.Ordering.TheVariants.{Less, Greater}
use Rattle.std.proofs.lemmas.List.Elements.{All-contains}
use Rattle.ip_prefix.specs.Prefix.{prefix_order}
use Rattle.prefix_index.proofs.Order.{prefix_order_total}
use Rattle.qname_index.specs.Best.{pattern_order}
use Rattle.trigger_codec.specs.Bases.{IsPattern, IsTrigger}
use Rattle.trigger_codec.specs.declared.trigger.Trigger.{Trigger}
use Rattle.trigger_codec.specs.declared.trigger.Trigger.TheVariants.{ClientIp, Qname, ResponseIp, NsDname, NsIp}
use Rattle.dns_record.specs.Row.{PlainRow, IsRow}
use Rattle.action_codec.specs.Action.{action_by}
use Rattle.action_codec.specs.declared.action.Action.{Action}
use Rattle.zone_index.specs.Kinds.{PlainRules}
use Rattle.zone_index.specs.Laws.{AreNamed, IsInOrder, rule_at}
use Rattle.zone_index.specs.Listed.{is_of, is_same, rules_by_kind, row_rule, rows_of, rule_if, with_triggers, zone_rules}
use Rattle.zone_index.specs.Rules.{live_trigger, rules_of}
use Rattle.trie_keys.proofs.ByKey.{at_itself}
use Rattle.zone_index.proofs.Gathered.{rule_of_rows, rules_in_order}
use Rattle.zone_index.proofs.Members.{IsIn, in_contained, contained_in, in_left, in_right, in_either, in_flat_map, source_of, in_map, origin_of}
use Rattle.zone_index.proofs.OnlyRules.{rules_named, within, passes}
use Rattle.zone_index.proofs.SameAction.{pattern_order_total}
use Rattle.zone_index.proofs.Ties.{NameLaws, IsTriggerIf, equal_trigger, equal_live, named_live}

some_same : {X : Type 0} (x y : X) → Some x ≡ Some y → x ≡ y
some_same x y h = cc h

-- ---- entries by key

module _ {K X : Type 0} (R : K → K → Ordering) where
  -- an entry with this value, at the place of the key
  pub record HasEntry (q : K) (x : X) (es : List (K × X)) : Type 0 where
    pub entry : K × X
    pub is_in : IsIn entry es
    pub is_at_key : is_at (R q) entry.0 ≡ true
    pub has : entry.1 ≡ x

  entry_further : (q : K) (x : X) (e : K × X) (es : List (K × X)) → HasEntry q x es → HasEntry q x (e ∷ es)
  entry_further q x e es h = record { entry = h.entry; is_in = inr h.is_in; is_at_key = h.is_at_key; has = h.has }

  entry_by : (b : Bool) (q : K) (x : X) (e : K × X) (es : List (K × X)) → is_at (R q) e.0 ≡ b → (lookup (is_at (R q)) es ≡ Some x → HasEntry q x es)
      → cond b (Some e.1) (lookup (is_at (R q)) es) ≡ Some x → HasEntry q x (e ∷ es)
  entry_by true q x e es at further h = record { entry = e; is_in = inl refl; is_at_key = at; has = some_same e.1 x h }
  entry_by false q x e es at further h = entry_further q x e es (further h)

  -- what a look-up finds is the value of an entry at the place of the key
  entry_of : (q : K) (x : X) (es : List (K × X)) → lookup (is_at (R q)) es ≡ Some x → HasEntry q x es
  entry_of q x [] h = let none : None ≡ Some x = h in cc none
  entry_of q x (e ∷ es) h = entry_by (is_at (R q) e.0) q x e es refl (λ k. entry_of q x es k) h

key_in : {K X : Type 0} (P : K → Type 0) (f : K × X) (es : List (K × X)) → AllByRecursion P (keys_of es) → IsIn f es → P f.0
key_in P f [] h is = absurd is
key_in P f (e ∷ es) h (inl s) = subst (λ (g : _ × _). P g.0) s h.0
key_in P f (e ∷ es) h (inr k) = key_in P f es h.1 k

module _ {K X : Type 0} {R : K → K → Ordering} (o : IsTotalOrder R) where
  -- a look-up at the key of an entry finds it
  found_at : (f : K × X) (es : List (K × X)) → IsStrictlySortedBy R (keys_of es) → IsIn f es → lookup (is_at (R f.0)) es ≡ Some f.1
  unfolding IsStrictlySortedBy
  found_at f [] s is = absurd is
  found_at f (e ∷ es) s (inl same) =
      subst (λ (g : K × X). lookup (is_at (R g.0)) (e ∷ es) ≡ Some g.1) same
      (ap (λ (b : Bool). cond b (Some e.1) (lookup (is_at (R e.0)) es)) (at_itself o e.0))
  found_at f (e ∷ es) s (inr k) =
      let less : R e.0 f.0 ≡ Less = key_in (λ y. R e.0 y ≡ Less) f es s.0 k in
      let greater : R f.0 e.0 ≡ Greater = o.antisymm f.0 e.0 ∙ ap ordering_reverse less in
      ap (λ (c : Ordering). cond (is_eq c) (Some e.1) (lookup (is_at (R f.0)) es)) greater ∙ found_at f es s.1 k

-- ---- the rules of an index

-- a rule of the list with this action, at the place of the trigger
record HasRule (t : Trigger) (action : Action) (all : List (Trigger × Action)) : Type 0 where
  rule : Trigger × Action
  is_in : IsIn rule all
  is_at_trigger : is_same t rule.0 ≡ true
  has : rule.1 ≡ action
  is_trigger : IsTrigger rule.0

-- the entry with its trigger
abbrev pub keyed : {K : Type 0} → (K → Trigger) → K × Action → Trigger × Action
keyed kind e = (kind e.0, e.1)

rule_left : (t : Trigger) (action : Action) (xs ys : List (Trigger × Action)) → HasRule t action xs → HasRule t action (xs ++ ys)
rule_left t action xs ys h = record { rule = h.rule; is_in = in_left h.rule xs ys h.is_in; is_at_trigger = h.is_at_trigger; has = h.has; is_trigger = h.is_trigger }

rule_right : (t : Trigger) (action : Action) (xs ys : List (Trigger × Action)) → HasRule t action ys → HasRule t action (xs ++ ys)
rule_right t action xs ys h = record { rule = h.rule; is_in = in_right h.rule xs ys h.is_in; is_at_trigger = h.is_at_trigger; has = h.has; is_trigger = h.is_trigger }

rule_entry : {K : Type 0} (R : K → K → Ordering) (kind : K → Trigger) (q : K) (action : Action) (es : List (K × Action))
    → ((k : K) → is_at (R q) k ≡ true → is_same (kind q) (kind k) ≡ true) → ((f : K × Action) → IsIn f es → IsTrigger (kind f.0))
    → lookup (is_at (R q)) es ≡ Some action → HasRule (kind q) action (with_triggers kind es)
rule_entry R kind q action es same is h =
    let found = entry_of R q action es h in
    record {
      rule = keyed kind found.entry;
      is_in = in_map (keyed kind) found.entry es found.is_in;
      is_at_trigger = same found.entry.0 found.is_at_key;
      has = found.has;
      is_trigger = is found.entry found.is_in;
    }

-- the rules of each kind, and those of the kinds behind it
abbrev pub clients : PlainRules → List (Trigger × Action)
clients rules = with_triggers ClientIp rules.client_ip

abbrev pub queries : PlainRules → List (Trigger × Action)
queries rules = with_triggers Qname rules.qname

abbrev pub answers : PlainRules → List (Trigger × Action)
answers rules = with_triggers ResponseIp rules.response_ip

abbrev pub server_names : PlainRules → List (Trigger × Action)
server_names rules = with_triggers NsDname rules.nsdname

abbrev pub servers : PlainRules → List (Trigger × Action)
servers rules = with_triggers NsIp rules.nsip

abbrev pub from_names : PlainRules → List (Trigger × Action)
from_names rules = server_names rules ++ servers rules

abbrev pub from_answers : PlainRules → List (Trigger × Action)
from_answers rules = answers rules ++ from_names rules

abbrev pub from_queries : PlainRules → List (Trigger × Action)
from_queries rules = queries rules ++ from_answers rules

-- what the rules do at a trigger is in their list
has_rule : (rules : PlainRules) (t : Trigger) (action : Action) → AreNamed rules → rule_at rules t ≡ Some action → HasRule t action (rules_by_kind rules)
has_rule rules (ClientIp p) action are h =
    let own = rule_entry prefix_order ClientIp p action rules.client_ip (λ k e. e) (λ f is. tt) h in
    rule_left (ClientIp p) action (clients rules) (from_queries rules) own
has_rule rules (Qname p) action are h =
    let own = rule_entry pattern_order Qname p action rules.qname (λ k e. e) (λ f is. key_in IsPattern f rules.qname are.qname is) h in
    let queries_on = rule_left (Qname p) action (queries rules) (from_answers rules) own in
    rule_right (Qname p) action (clients rules) (from_queries rules) queries_on
has_rule rules (ResponseIp p) action are h =
    let own = rule_entry prefix_order ResponseIp p action rules.response_ip (λ k e. e) (λ f is. tt) h in
    let answers_on = rule_left (ResponseIp p) action (answers rules) (from_names rules) own in
    let queries_on = rule_right (ResponseIp p) action (queries rules) (from_answers rules) answers_on in
    rule_right (ResponseIp p) action (clients rules) (from_queries rules) queries_on
has_rule rules (NsDname p) action are h =
    let own = rule_entry pattern_order NsDname p action rules.nsdname (λ k e. e) (λ f is. key_in IsPattern f rules.nsdname are.nsdname is) h in
    let names_on = rule_left (NsDname p) action (server_names rules) (servers rules) own in
    let answers_on = rule_right (NsDname p) action (answers rules) (from_names rules) names_on in
    let queries_on = rule_right (NsDname p) action (queries rules) (from_answers rules) answers_on in
    rule_right (NsDname p) action (clients rules) (from_queries rules) queries_on
has_rule rules (NsIp p) action are h =
    let own = rule_entry prefix_order NsIp p action rules.nsip (λ k e. e) (λ f is. tt) h in
    let names_on = rule_right (NsIp p) action (server_names rules) (servers rules) own in
    let answers_on = rule_right (NsIp p) action (answers rules) (from_names rules) names_on in
    let queries_on = rule_right (NsIp p) action (queries rules) (from_answers rules) answers_on in
    rule_right (NsIp p) action (clients rules) (from_queries rules) queries_on

-- a rule is found at its trigger, whose pattern, if it has one, is of a name in lower case
record IsFound (rules : PlainRules) (rule : Trigger × Action) : Type 0 where
  at : rule_at rules rule.0 ≡ Some rule.1
  is_trigger : IsTrigger rule.0

found_entry : {K : Type 0} {R : K → K → Ordering} (o : IsTotalOrder R) (kind : K → Trigger) (rules : PlainRules) (es : List (K × Action)) (rule : Trigger × Action)
    → ((k : K) → rule_at rules (kind k) ≡ lookup (is_at (R k)) es) → ((f : K × Action) → IsIn f es → IsTrigger (kind f.0)) → IsStrictlySortedBy R (keys_of es)
    → IsIn rule (with_triggers kind es) → IsFound rules rule
found_entry o kind rules es rule same is s h =
    let from = origin_of (keyed kind) rule es h in
    let found : IsFound rules (keyed kind from.source) = record { at = same from.source.0 ∙ found_at o from.source es s from.is_in; is_trigger = is from.source from.is_in } in
    subst (IsFound rules) from.gives found

is_found : (rules : PlainRules) (rule : Trigger × Action) → AreNamed rules → IsInOrder rules → IsIn rule (rules_by_kind rules) → IsFound rules rule
is_found rules rule are s h =
    elim (in_either rule (clients rules) (from_queries rules) h) [
      | inl k ↦ found_entry prefix_order_total ClientIp rules rules.client_ip rule (λ k. refl) (λ f is. tt) s.client_ip k
      | inr h ↦ elim (in_either rule (queries rules) (from_answers rules) h) [
        | inl k ↦ found_entry pattern_order_total Qname rules rules.qname rule (λ k. refl) (λ f is. key_in IsPattern f rules.qname are.qname is) s.qname k
        | inr h ↦ elim (in_either rule (answers rules) (from_names rules) h) [
          | inl k ↦ found_entry prefix_order_total ResponseIp rules rules.response_ip rule (λ k. refl) (λ f is. tt) s.response_ip k
          | inr h ↦ elim (in_either rule (server_names rules) (servers rules) h) [
            | inl k ↦ found_entry pattern_order_total NsDname rules rules.nsdname rule (λ k. refl) (λ f is. key_in IsPattern f rules.nsdname are.nsdname is) s.nsdname k
            | inr k ↦ found_entry prefix_order_total NsIp rules rules.nsip rule (λ k. refl) (λ f is. tt) s.nsip k
          ]
        ]
      ]
    ]

-- ---- the rules of a zone

module _ (origin : List (List ℕ)) (rows : List PlainRow) where
  -- a live row of the zone has the trigger of the rule, and the rule does what the rows of its trigger do
  record IsRule (rule : Trigger × Action) : Type 0 where
    row : PlainRow
    is_in : IsIn row rows
    is_live : live_trigger origin row ≡ Some rule.0
    acts : action_by rule.0 (rows_of origin rows rule.0) ≡ Some rule.1

  abbrev pub RowRule : Option Trigger → Trigger × Action → Type 0
  RowRule live rule = (live ≡ Some rule.0) × (action_by rule.0 (rows_of origin rows rule.0) ≡ Some rule.1)

  rule_by : (t : Trigger) (action : Option Action) (rule : Trigger × Action) → action_by t (rows_of origin rows t) ≡ action → IsIn rule (rule_if t action) → RowRule (Some t) rule
  rule_by t None rule is h = absurd h
  rule_by t (Some action) rule is (inl e) = (
    ap (λ (r : Trigger × Action). Some r.0) e,
    subst (λ (r : Trigger × Action). action_by r.0 (rows_of origin rows r.0) ≡ Some r.1) e is,
  )
  rule_by t (Some action) rule is (inr h) = absurd h

  rule_of_row : (live : Option Trigger) (rule : Trigger × Action) → IsIn rule (row_rule origin rows live) → RowRule live rule
  rule_of_row None rule h = absurd h
  rule_of_row (Some t) rule h = rule_by t (action_by t (rows_of origin rows t)) rule refl h

  is_rule : (rule : Trigger × Action) → IsIn rule (zone_rules origin rows) → IsRule rule
  is_rule rule h =
      let from = source_of (λ (row : PlainRow). row_rule origin rows (live_trigger origin row)) rule rows h in
      let by_row = rule_of_row (live_trigger origin from.source) rule from.has in
      record { row = from.source; is_in = from.is_in; is_live = by_row.0; acts = by_row.1 }

  in_rules : (rule : Trigger × Action) → IsRule rule → IsIn rule (zone_rules origin rows)
  in_rules rule r =
      let has : IsIn rule (rule_if rule.0 (Some rule.1)) = inl refl in
      let by_action : IsIn rule (row_rule origin rows (Some rule.0)) = subst (λ (action : Option Action). IsIn rule (rule_if rule.0 action)) (sym r.acts) has in
      in_flat_map (λ (row : PlainRow). row_rule origin rows (live_trigger origin row)) rule r.row rows r.is_in
      (subst (λ (live : Option Trigger). IsIn rule (row_rule origin rows live)) (sym r.is_live) by_action)

  pub one_action : (t : Trigger) (a b : Action) → Contains (zone_rules origin rows) (t, a) → Contains (zone_rules origin rows) (t, b) → a ≡ b
  one_action t a b h k =
      let first : IsRule (t, a) = is_rule (t, a) (in_contained (t, a) (zone_rules origin rows) h) in
      let second : IsRule (t, b) = is_rule (t, b) (in_contained (t, b) (zone_rules origin rows) k) in
      some_same a b (sym first.acts ∙ second.acts)

owner_is : (rows : List PlainRow) (row : PlainRow) → All IsRow rows → IsIn row rows → IsRow row
owner_is rows row are h = All-contains IsRow rows row are (contained_in row rows h)

trigger_of_rule : NameLaws → (origin : List (List ℕ)) (rows : List PlainRow) (rule : Trigger × Action) → All IsRow rows → IsRule origin rows rule → IsTrigger rule.0
trigger_of_rule laws origin rows rule are r = subst IsTriggerIf r.is_live (named_live laws origin r.row (owner_is rows r.row are r.is_in).is_owner)

pub rule_named : NameLaws → (origin : List (List ℕ)) (rows : List PlainRow) → All IsRow rows → (rule : Trigger × Action) → Contains (zone_rules origin rows) rule → IsTrigger rule.0
rule_named laws origin rows are rule h = trigger_of_rule laws origin rows rule are (is_rule origin rows rule (in_contained rule (zone_rules origin rows) h))

-- ---- both ways

rule_listed : NameLaws → (origin : List (List ℕ)) (rows : List PlainRow) → All IsRow rows → (rule : Trigger × Action) → IsRule origin rows rule → IsIn rule (rules_by_kind (rules_of origin rows))
rule_listed laws origin rows are rule r =
    let found = has_rule (rules_of origin rows) rule.0 rule.1 (rules_named laws origin rows are) (rule_of_rows origin rows rule.0 ∙ r.acts) in
    let trigger : found.rule.0 ≡ rule.0 = sym (equal_trigger laws rule.0 found.rule.0 (trigger_of_rule laws origin rows rule are r) found.is_trigger found.is_at_trigger) in
    let same : found.rule ≡ rule = λ i. (trigger i, found.has i) in
    subst (λ (other : Trigger × Action). IsIn other (rules_by_kind (rules_of origin rows))) same found.is_in

-- rows that do something are some
some_row : (t : Trigger) (action : Action) (rows : List PlainRow) → action_by t rows ≡ Some action → (row : PlainRow) × Contains rows row
some_row t action [] h = let none : None ≡ Some action = h in cc none
some_row t action (row ∷ rows) h = (row, (0, omega arith, refl))

listed_rule : NameLaws → (origin : List (List ℕ)) (rows : List PlainRow) → All IsRow rows → (rule : Trigger × Action) → IsIn rule (rules_by_kind (rules_of origin rows)) → IsRule origin rows rule
listed_rule laws origin rows are rule h =
    let found = is_found (rules_of origin rows) rule (rules_named laws origin rows are) (rules_in_order origin rows) h in
    let acts : action_by rule.0 (rows_of origin rows rule.0) ≡ Some rule.1 = sym (rule_of_rows origin rows rule.0) ∙ found.at in
    let some = some_row rule.0 rule.1 (rows_of origin rows rule.0) acts in
    let test : PlainRow → Bool = λ (row : PlainRow). is_of rule.0 (live_trigger origin row) in
    let contained : Contains rows some.0 = within test rows some.0 some.1 in
    let is_owner = (All-contains IsRow rows some.0 are contained).is_owner in
    record {
      row = some.0;
      is_in = in_contained some.0 rows contained;
      is_live = equal_live laws rule.0 (live_trigger origin some.0) found.is_trigger (named_live laws origin some.0 is_owner) (passes test rows some.0 some.1);
      acts = acts;
    }

pub rules_listed : NameLaws → (origin : List (List ℕ)) (rows : List PlainRow) → All IsRow rows → (rule : Trigger × Action) → Contains (zone_rules origin rows) rule ↔ Contains (rules_by_kind (rules_of origin rows)) rule
rules_listed laws origin rows are rule = (
  λ h. contained_in rule (rules_by_kind (rules_of origin rows)) (rule_listed laws origin rows are rule (is_rule origin rows rule (in_contained rule (zone_rules origin rows) h))),
  λ h. contained_in rule (zone_rules origin rows) (in_rules origin rows rule (listed_rule laws origin rows are rule (in_contained rule (rules_by_kind (rules_of origin rows)) h))),
)
