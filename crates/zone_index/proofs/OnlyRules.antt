-- The rules of a zone are the only ones in order that do at each trigger what its rows do, so that they depend on no order of the rows.
use Rattle.std.proofs.Common.{◌≡◌, ℕ, ◌<◌, Bool, true, false, cond, Option, Some, None, List, [], ◌∷◌, ◌++◌, length, get_or, zero, suc, sym, ap, ◌∙◌, arith, true≢false}
use Rattle.std.specs.Prelude.{fold, filter}
use Rattle.std.specs.BTreeMap.{is_at}
use Rattle.std.specs.List.{All, AllByRecursion, Contains}
use Rattle.std.specs.List.Sorted.{IsStrictlySortedBy}
use Rattle.std.specs.Map.{keys_of, lookup, remove_entry}
use Rattle.std.proofs.lemmas.List.Elements.{All-contains, All-filter, All-contains_itself, Contains-get_or, filter_passes}
use Rattle.dns_name.specs.Alike.{PlainPattern}
use Rattle.ip_prefix.specs.Prefix.{PlainPrefix, prefix_order}
use Rattle.prefix_index.proofs.Order.{prefix_order_total}
use Rattle.qname_index.specs.Best.{pattern_order}
use Rattle.trigger_codec.specs.Bases.{IsPattern, IsTrigger}
use Rattle.trigger_codec.specs.declared.trigger.Trigger.{Trigger}
use Rattle.trigger_codec.specs.declared.trigger.Trigger.TheVariants.{ClientIp, Qname, ResponseIp, NsDname, NsIp}
use Rattle.dns_record.specs.Row.{PlainRow, IsRow}
use Rattle.action_codec.specs.Action.{action_by, action_for}
use Rattle.action_codec.specs.Laws.{HaveOneTtl, HaveSameRows}
use Rattle.action_codec.specs.declared.action.Action.{Action}
use Rattle.zone_index.specs.Kinds.{PlainGroups, PlainRules}
use Rattle.zone_index.specs.Laws.{AreNamed, IsInOrder, rule_at}
use Rattle.zone_index.specs.Listed.{is_of, rows_of}
use Rattle.zone_index.specs.Rules.{live_trigger, no_groups, put_live, groups_of, rules_of, with_row, with_rule, put_rule, rows_in}
use Rattle.zone_index.proofs.Gathered.{rule_of_rows, rules_in_order}
use Rattle.trie_keys.proofs.OneList.{keys-insert, keys-remove, same_entries}
use Rattle.zone_index.proofs.SameAction.{pattern_order_total}
use Rattle.zone_index.proofs.Ties.{NameLaws, IsTriggerIf, named_live, equal_prefix, equal_pattern}

-- ---- the patterns of a zone's rules are of names in lower case

named-with_row : (pattern : PlainPattern) (row : PlainRow) (groups : List (PlainPattern × List PlainRow)) → IsPattern pattern → AllByRecursion IsPattern (keys_of groups)
    → AllByRecursion IsPattern (keys_of (with_row pattern_order groups pattern row))
named-with_row pattern row groups is h =
    keys-insert pattern_order IsPattern pattern (rows_in (lookup (is_at (pattern_order pattern)) groups) ++ row ∷ []) (remove_entry (is_at (pattern_order pattern)) groups) is (keys-remove IsPattern (is_at (pattern_order pattern)) groups h)

named-put_rule : (rules : List (PlainPattern × Action)) (pattern : PlainPattern) (action : Option Action) → IsPattern pattern → AllByRecursion IsPattern (keys_of rules)
    → AllByRecursion IsPattern (keys_of (put_rule pattern_order rules pattern action))
named-put_rule rules pattern None is h = h
named-put_rule rules pattern (Some action) is h = keys-insert pattern_order IsPattern pattern action rules is h

named-rules : (own : PlainPattern → Option PlainPattern) (rules : List (PlainPattern × Action)) (groups : List (PlainPattern × List PlainRow)) → AllByRecursion IsPattern (keys_of rules) → AllByRecursion IsPattern (keys_of groups)
    → AllByRecursion IsPattern (keys_of (fold (with_rule pattern_order own) rules groups))
named-rules own rules [] h k = h
named-rules own rules (g ∷ gs) h k = named-rules own (with_rule pattern_order own rules g) gs (named-put_rule rules g.0 (action_for (own g.0) g.1) k.0 h) k.1

record AreNamedGroups (groups : PlainGroups) : Type 0 where
  qname : AllByRecursion IsPattern (keys_of groups.qname)
  nsdname : AllByRecursion IsPattern (keys_of groups.nsdname)

named-put_live : (live : Option Trigger) (groups : PlainGroups) (row : PlainRow) → IsTriggerIf live → AreNamedGroups groups → AreNamedGroups (put_live groups row live)
named-put_live None groups row is h = h
named-put_live (Some (ClientIp p)) groups row is h = record { qname = h.qname; nsdname = h.nsdname }
named-put_live (Some (Qname p)) groups row is h = record { qname = named-with_row p row groups.qname is h.qname; nsdname = h.nsdname }
named-put_live (Some (ResponseIp p)) groups row is h = record { qname = h.qname; nsdname = h.nsdname }
named-put_live (Some (NsDname p)) groups row is h = record { qname = h.qname; nsdname = named-with_row p row groups.nsdname is h.nsdname }
named-put_live (Some (NsIp p)) groups row is h = record { qname = h.qname; nsdname = h.nsdname }

named-fold : NameLaws → (origin : List (List ℕ)) (groups : PlainGroups) (rows : List PlainRow) → All IsRow rows → AreNamedGroups groups
    → AreNamedGroups (fold (λ groups row. put_live groups row (live_trigger origin row)) groups rows)
named-fold laws origin groups [] are h = h
named-fold laws origin groups (row ∷ rows) are h =
    let first : IsRow row = are 0 row (omega arith) in
    let others : All IsRow rows = λ (k : ℕ) (d : PlainRow) (lt : k < length rows). are (suc k) d (omega arith) in
    named-fold laws origin (put_live groups row (live_trigger origin row)) rows others (named-put_live (live_trigger origin row) groups row (named_live laws origin row first.is_owner) h)

pub rules_named : NameLaws → (origin : List (List ℕ)) (rows : List PlainRow) → All IsRow rows → AreNamed (rules_of origin rows)
rules_named laws origin rows are =
    let groups = named-fold laws origin no_groups rows are (record { qname = tt; nsdname = tt }) in
    record { qname = named-rules (λ pattern. Some pattern) [] (groups_of origin rows).qname tt groups.qname; nsdname = named-rules (λ _. None) [] (groups_of origin rows).nsdname tt groups.nsdname }

-- ---- the only rules

any_prefix : (es : List (PlainPrefix × Action)) → AllByRecursion (λ _. Unit {0}) (keys_of es)
any_prefix [] = tt
any_prefix (e ∷ es) = (tt, any_prefix es)

same_prefixes : (es fs : List (PlainPrefix × Action)) → IsStrictlySortedBy prefix_order (keys_of es) → IsStrictlySortedBy prefix_order (keys_of fs) → ((q : PlainPrefix) → lookup (is_at (prefix_order q)) es ≡ lookup (is_at (prefix_order q)) fs) → es ≡ fs
same_prefixes es fs s t same = same_entries prefix_order_total (λ _. Unit {0}) (λ p q _ _ h. equal_prefix p q h) es fs s t (any_prefix es) (any_prefix fs) (λ q _. same q)

same_patterns : NameLaws → (es fs : List (PlainPattern × Action)) → IsStrictlySortedBy pattern_order (keys_of es) → IsStrictlySortedBy pattern_order (keys_of fs) → AllByRecursion IsPattern (keys_of es) → AllByRecursion IsPattern (keys_of fs)
    → ((q : PlainPattern) → IsPattern q → lookup (is_at (pattern_order q)) es ≡ lookup (is_at (pattern_order q)) fs) → es ≡ fs
same_patterns laws es fs s t is_e is_f same = same_entries pattern_order_total IsPattern (equal_pattern laws) es fs s t is_e is_f same

same_rules : NameLaws → (rules other : PlainRules) → IsInOrder rules → IsInOrder other → AreNamed rules → AreNamed other → ((t : Trigger) → IsTrigger t → rule_at rules t ≡ rule_at other t) → rules ≡ other
same_rules laws rules other s t is_r is_o same =
    let client_ip = same_prefixes rules.client_ip other.client_ip s.client_ip t.client_ip (λ q. same (ClientIp q) tt) in
    let qname = same_patterns laws rules.qname other.qname s.qname t.qname is_r.qname is_o.qname (λ q is. same (Qname q) is) in
    let response_ip = same_prefixes rules.response_ip other.response_ip s.response_ip t.response_ip (λ q. same (ResponseIp q) tt) in
    let nsdname = same_patterns laws rules.nsdname other.nsdname s.nsdname t.nsdname is_r.nsdname is_o.nsdname (λ q is. same (NsDname q) is) in
    let nsip = same_prefixes rules.nsip other.nsip s.nsip t.nsip (λ q. same (NsIp q) tt) in
    λ i. record { client_ip = client_ip i; qname = qname i; response_ip = response_ip i; nsdname = nsdname i; nsip = nsip i }

pub only_rules : NameLaws → (origin : List (List ℕ)) (rows : List PlainRow) (rules : PlainRules) → All IsRow rows → AreNamed rules → IsInOrder rules
    → ((t : Trigger) → IsTrigger t → rule_at rules t ≡ action_by t (rows_of origin rows t)) → rules ≡ rules_of origin rows
only_rules laws origin rows rules are named ordered same =
    same_rules laws rules (rules_of origin rows) ordered (rules_in_order origin rows) named (rules_named laws origin rows are)
    (λ t is. same t is ∙ sym (rule_of_rows origin rows t))

-- ---- the order of the rows

contains_first : (b : Bool) (y x : PlainRow) (rest : List PlainRow) → b ≡ true → y ≡ x → Contains (cond b (y ∷ rest) rest) x
contains_first true y x rest h e = (0, omega arith, e)
contains_first false y x rest h e = absurd (true≢false (sym h))

contains_further : (b : Bool) (y x : PlainRow) (rest : List PlainRow) → Contains rest x → Contains (cond b (y ∷ rest) rest) x
contains_further true y x rest h = let lt : h.0 < length rest = h.1 in (suc h.0, omega arith, h.2)
contains_further false y x rest h = h

module _ (p : PlainRow → Bool) where
  passes_at : (x : PlainRow) (rows : List PlainRow) (k : ℕ) → k < length rows → get_or rows k x ≡ x → p x ≡ true → Contains (filter p rows) x
  passes_at x [] k lt e h = absurd (omega arith)
  passes_at x (y ∷ rows) zero lt e h = contains_first (p y) y x (filter p rows) (ap p e ∙ h) e
  passes_at x (y ∷ rows) (suc k) lt e h = contains_further (p y) y x (filter p rows) (passes_at x rows k (omega arith) e h)

  pub within : (rows : List PlainRow) (x : PlainRow) → Contains (filter p rows) x → Contains rows x
  within rows x h = All-contains (Contains rows) (filter p rows) x (All-filter p (Contains rows) rows (All-contains_itself rows)) h

  pub passes : (rows : List PlainRow) (x : PlainRow) → Contains (filter p rows) x → p x ≡ true
  passes rows x h = All-contains (λ y. p y ≡ true) (filter p rows) x (filter_passes p rows) h

  same_passing : (rows other : List PlainRow) → ((x : PlainRow) → Contains rows x → Contains other x) → (x : PlainRow) → Contains (filter p rows) x → Contains (filter p other) x
  same_passing rows other to x h = let there = to x (within rows x h) in passes_at x other there.0 there.1 there.2 (passes rows x h)

-- what rows do doesn't depend on their order
abbrev pub DoSameInAnyOrder : Type 0
DoSameInAnyOrder = (t : Trigger) (rows other : List PlainRow) → All IsRow rows → HaveOneTtl rows → HaveSameRows rows other → action_by t rows ≡ action_by t other

rows_in_any_order : DoSameInAnyOrder → (origin : List (List ℕ)) (rows other : List PlainRow) (t : Trigger) → All IsRow rows → HaveOneTtl rows → HaveSameRows rows other → action_by t (rows_of origin rows t) ≡ action_by t (rows_of origin other t)
rows_in_any_order do_same origin rows other t are one_ttl same =
    let p : PlainRow → Bool = λ (row : PlainRow). is_of t (live_trigger origin row) in
    do_same t (filter p rows) (filter p other) (All-filter p IsRow rows are)
    (λ a b in_a in_b alike. one_ttl a b (within p rows a in_a) (within p rows b in_b) alike)
    (λ x. (same_passing p rows other (λ y. (same y).0) x, same_passing p other rows (λ y. (same y).1) x))

rows_of_other : (rows other : List PlainRow) → All IsRow rows → HaveSameRows rows other → All IsRow other
rows_of_other rows other are same = λ k d lt. All-contains IsRow rows (get_or other k d) are ((same (get_or other k d)).1 (Contains-get_or other k d lt))

pub rules_in_any_order : NameLaws → DoSameInAnyOrder → (origin : List (List ℕ)) (rows other : List PlainRow) → All IsRow rows → HaveOneTtl rows → HaveSameRows rows other → rules_of origin rows ≡ rules_of origin other
rules_in_any_order laws do_same origin rows other are one_ttl same =
    only_rules laws origin other (rules_of origin rows) (rows_of_other rows other are same) (rules_named laws origin rows are) (rules_in_order origin rows)
    (λ t is. rule_of_rows origin rows t ∙ rows_in_any_order do_same origin rows other t are one_ttl same)
