-- The groups of a zone hold just the live rows of each trigger, in the order of the zone, and its rules do what these rows do.
use Rattle.std.proofs.Common.{◌≡◌, ℕ, Bool, true, false, cond, Option, Some, None, List, [], ◌∷◌, ◌++◌, refl, sym, ap, ◌∙◌, append-nil, append_assoc}
use Rattle.std.specs.Prelude.{fold}
use Rattle.std.specs.List.Sorted.{IsStrictlySortedBy}
use Rattle.std.specs.Map.{keys_of}
use Rattle.ip_prefix.specs.Prefix.{prefix_order}
use Rattle.prefix_index.proofs.Order.{prefix_order_total}
use Rattle.qname_index.specs.Best.{pattern_order}
use Rattle.trigger_codec.specs.declared.trigger.Trigger.{Trigger}
use Rattle.trigger_codec.specs.declared.trigger.Trigger.TheVariants.{ClientIp, Qname, ResponseIp, NsDname, NsIp}
use Rattle.dns_record.specs.Row.{PlainRow}
use Rattle.action_codec.specs.Action.{action_by}
use Rattle.zone_index.specs.Kinds.{PlainGroups}
use Rattle.zone_index.specs.Laws.{rule_at, IsInOrder}
use Rattle.zone_index.specs.Listed.{is_same, is_of, rows_of}
use Rattle.zone_index.specs.Rules.{live_trigger, no_groups, put_row, put_live, groups_of, rules_in, rules_of}
use Rattle.zone_index.proofs.ByKey.{rows_at, rows_at-with_row, ordered-with_row, ordered-rules, lookup-rules}
use Rattle.zone_index.proofs.SameAction.{pattern_order_total, same_action}

-- the rows at a trigger
abbrev group_at : Trigger → PlainGroups → List PlainRow
group_at (ClientIp prefix) groups = rows_at prefix_order prefix groups.client_ip
group_at (Qname pattern) groups = rows_at pattern_order pattern groups.qname
group_at (ResponseIp prefix) groups = rows_at prefix_order prefix groups.response_ip
group_at (NsDname pattern) groups = rows_at pattern_order pattern groups.nsdname
group_at (NsIp prefix) groups = rows_at prefix_order prefix groups.nsip

group_at-put_row : (t u : Trigger) (groups : PlainGroups) (row : PlainRow) → group_at t (put_row groups row u) ≡ group_at t groups ++ cond (is_same t u) (row ∷ []) []
group_at-put_row (ClientIp p) (ClientIp q) groups row = rows_at-with_row prefix_order_total p q row groups.client_ip
group_at-put_row (Qname p) (Qname q) groups row = rows_at-with_row pattern_order_total p q row groups.qname
group_at-put_row (ResponseIp p) (ResponseIp q) groups row = rows_at-with_row prefix_order_total p q row groups.response_ip
group_at-put_row (NsDname p) (NsDname q) groups row = rows_at-with_row pattern_order_total p q row groups.nsdname
group_at-put_row (NsIp p) (NsIp q) groups row = rows_at-with_row prefix_order_total p q row groups.nsip
group_at-put_row t u groups row = sym (append-nil (group_at t groups))

group_at-put_live : (t : Trigger) (live : Option Trigger) (groups : PlainGroups) (row : PlainRow) → group_at t (put_live groups row live) ≡ group_at t groups ++ cond (is_of t live) (row ∷ []) []
group_at-put_live t None groups row = sym (append-nil (group_at t groups))
group_at-put_live t (Some u) groups row = group_at-put_row t u groups row

one_more : (b : Bool) (front : List PlainRow) (row : PlainRow) (rest : List PlainRow) → (front ++ cond b (row ∷ []) []) ++ rest ≡ front ++ cond b (row ∷ rest) rest
one_more true front row rest = append_assoc front (row ∷ []) rest
one_more false front row rest = append_assoc front [] rest

-- what there was, and then the rows of the trigger
group_at-fold : (origin : List (List ℕ)) (t : Trigger) (groups : PlainGroups) (rows : List PlainRow)
    → group_at t (fold (λ groups row. put_live groups row (live_trigger origin row)) groups rows) ≡ group_at t groups ++ rows_of origin rows t
group_at-fold origin t groups [] = sym (append-nil (group_at t groups))
group_at-fold origin t groups (row ∷ rows) =
    group_at-fold origin t (put_live groups row (live_trigger origin row)) rows
    ∙ ap (λ (front : List PlainRow). front ++ rows_of origin rows t) (group_at-put_live t (live_trigger origin row) groups row)
    ∙ one_more (is_of t (live_trigger origin row)) (group_at t groups) row (rows_of origin rows t)

no_group : (t : Trigger) → group_at t no_groups ≡ []
no_group (ClientIp prefix) = refl
no_group (Qname pattern) = refl
no_group (ResponseIp prefix) = refl
no_group (NsDname pattern) = refl
no_group (NsIp prefix) = refl

group_at-groups_of : (origin : List (List ℕ)) (rows : List PlainRow) (t : Trigger) → group_at t (groups_of origin rows) ≡ rows_of origin rows t
group_at-groups_of origin rows t = group_at-fold origin t no_groups rows ∙ ap (λ (front : List PlainRow). front ++ rows_of origin rows t) (no_group t)

-- ---- order

record AreInOrder (groups : PlainGroups) : Type 0 where
  client_ip : IsStrictlySortedBy prefix_order (keys_of groups.client_ip)
  qname : IsStrictlySortedBy pattern_order (keys_of groups.qname)
  response_ip : IsStrictlySortedBy prefix_order (keys_of groups.response_ip)
  nsdname : IsStrictlySortedBy pattern_order (keys_of groups.nsdname)
  nsip : IsStrictlySortedBy prefix_order (keys_of groups.nsip)

ordered-put_live : (live : Option Trigger) (groups : PlainGroups) (row : PlainRow) → AreInOrder groups → AreInOrder (put_live groups row live)
ordered-put_live None groups row s = s
ordered-put_live (Some (ClientIp p)) groups row s = record { client_ip = ordered-with_row prefix_order_total p row groups.client_ip s.client_ip; qname = s.qname; response_ip = s.response_ip; nsdname = s.nsdname; nsip = s.nsip }
ordered-put_live (Some (Qname p)) groups row s = record { client_ip = s.client_ip; qname = ordered-with_row pattern_order_total p row groups.qname s.qname; response_ip = s.response_ip; nsdname = s.nsdname; nsip = s.nsip }
ordered-put_live (Some (ResponseIp p)) groups row s = record { client_ip = s.client_ip; qname = s.qname; response_ip = ordered-with_row prefix_order_total p row groups.response_ip s.response_ip; nsdname = s.nsdname; nsip = s.nsip }
ordered-put_live (Some (NsDname p)) groups row s = record { client_ip = s.client_ip; qname = s.qname; response_ip = s.response_ip; nsdname = ordered-with_row pattern_order_total p row groups.nsdname s.nsdname; nsip = s.nsip }
ordered-put_live (Some (NsIp p)) groups row s = record { client_ip = s.client_ip; qname = s.qname; response_ip = s.response_ip; nsdname = s.nsdname; nsip = ordered-with_row prefix_order_total p row groups.nsip s.nsip }

ordered-fold : (origin : List (List ℕ)) (groups : PlainGroups) (rows : List PlainRow) → AreInOrder groups
    → AreInOrder (fold (λ groups row. put_live groups row (live_trigger origin row)) groups rows)
ordered-fold origin groups [] s = s
ordered-fold origin groups (row ∷ rows) s = ordered-fold origin (put_live groups row (live_trigger origin row)) rows (ordered-put_live (live_trigger origin row) groups row s)

ordered-none : AreInOrder no_groups
unfolding IsStrictlySortedBy
ordered-none = record { client_ip = tt; qname = tt; response_ip = tt; nsdname = tt; nsip = tt }

-- the rules of groups in order are in order
ordered-rules_in : (groups : PlainGroups) → IsInOrder (rules_in groups)
unfolding IsStrictlySortedBy
ordered-rules_in groups = record {
  client_ip = ordered-rules prefix_order_total (λ _. None) [] groups.client_ip tt;
  qname = ordered-rules pattern_order_total (λ pattern. Some pattern) [] groups.qname tt;
  response_ip = ordered-rules prefix_order_total (λ _. None) [] groups.response_ip tt;
  nsdname = ordered-rules pattern_order_total (λ _. None) [] groups.nsdname tt;
  nsip = ordered-rules prefix_order_total (λ _. None) [] groups.nsip tt;
}

pub rules_in_order : (origin : List (List ℕ)) (rows : List PlainRow) → IsInOrder (rules_of origin rows)
rules_in_order origin rows = ordered-rules_in (groups_of origin rows)

-- ---- what the rules do

rule_at-rules_in : (groups : PlainGroups) (t : Trigger) → AreInOrder groups → rule_at (rules_in groups) t ≡ action_by t (group_at t groups)
rule_at-rules_in groups (ClientIp p) s = lookup-rules prefix_order_total p (λ _. None) (λ q rows h. refl) [] groups.client_ip s.client_ip refl
rule_at-rules_in groups (Qname p) s = lookup-rules pattern_order_total p (λ pattern. Some pattern) (λ q rows h. same_action p q rows h) [] groups.qname s.qname refl
rule_at-rules_in groups (ResponseIp p) s = lookup-rules prefix_order_total p (λ _. None) (λ q rows h. refl) [] groups.response_ip s.response_ip refl
rule_at-rules_in groups (NsDname p) s = lookup-rules pattern_order_total p (λ _. None) (λ q rows h. refl) [] groups.nsdname s.nsdname refl
rule_at-rules_in groups (NsIp p) s = lookup-rules prefix_order_total p (λ _. None) (λ q rows h. refl) [] groups.nsip s.nsip refl

pub rule_of_rows : (origin : List (List ℕ)) (rows : List PlainRow) (t : Trigger) → rule_at (rules_of origin rows) t ≡ action_by t (rows_of origin rows t)
rule_of_rows origin rows t = rule_at-rules_in (groups_of origin rows) t (ordered-fold origin no_groups rows ordered-none) ∙ ap (action_by t) (group_at-groups_of origin rows t)
