-- The rules that the entries of an index stand for are those of the rows.
use Rattle.std.proofs.Common.{◌≡◌, ℕ, Bool, true, false, cond, ◌&&◌, ◌||◌, Option, Some, None, List, [], ◌∷◌, map, refl, sym, ap, subst, ◌∙◌, option_map, codes}
use Rattle.std.specs.Prelude.{All, filter, if◌then◌else◌}
use Rattle.std.specs.BTreeMap.{is_at}
use Rattle.std.specs.Cmp.{IsTotalOrder}
use Rattle.std.specs.List.{AllByRecursion, find}
use Rattle.std.specs.List.Sorted.{IsStrictlySortedBy}
use Rattle.std.specs.Map.{keys_of, lookup}
use Rattle.std.specs.Option.{is_some}
use Rattle.std.specs.Ordering.{is_eq, ordering_reverse}
use Rattle.std.specs.declared.cmp.Ordering.{Ordering}
use Rattle.std.specs.declared.cmp.Ordering.TheVariants.{Less}
use Rattle.dns_name.specs.Alike.{PlainPattern, matches}
use Rattle.dns_record.specs.Row.{PlainRow, IsRow}
use Rattle.ip_prefix.specs.declared.Addr.{Addr}
use Rattle.ip_prefix.specs.Prefix.{PlainPrefix, contains, prefix_order}
use Rattle.prefix_index.specs.Longest.{longest}
use Rattle.prefix_index.proofs.Order.{prefix_order_total}
use Rattle.qname_index.specs.Best.{best, pattern_order}
use Rattle.packed_lists.specs.Stored.{PlainStored, NumbersRise, row_of_number}
use Rattle.trigger_codec.specs.Bases.{IsPattern, IsTrigger}
use Rattle.trigger_codec.specs.declared.trigger.Kind.{Kind}
use Rattle.trigger_codec.specs.declared.trigger.Kind.TheVariants as kinds
use Rattle.trigger_codec.specs.declared.trigger.Trigger.{Trigger}
use Rattle.trigger_codec.specs.declared.trigger.Trigger.TheVariants.{ClientIp, Qname, ResponseIp, NsDname, NsIp}
use Rattle.action_codec.specs.Action.{action_by, is_cname, one_action, cname_action, local_alone, points_to, is_own_name, is_reserved_name, own_pattern}
use Rattle.action_codec.specs.Local.{PlainLocal, local_row}
use Rattle.action_codec.specs.declared.action.Action.{Action}
use Rattle.action_codec.specs.declared.action.Action.TheVariants as actions
use Rattle.zone_index.specs.Does.{acts}
use Rattle.zone_index.specs.Entry.{PlainEntry}
use Rattle.zone_index.specs.Places.{AreLower, AreRanked, PlainPlaces, best_rule, entry_at, has_rule, longest_rule, some_acts}
use Rattle.zone_index.specs.declared.place.Place.TheVariants.{Rule}
use Rattle.zone_rows.specs.Stored.{plain_row}
use Rattle.zone_index.specs.Addresses.{has_some}
use Rattle.zone_index.specs.Kinds.{PlainRules, has_kind}
use Rattle.zone_index.specs.Laws.{rule_at}
use Rattle.zone_index.specs.Listed.{is_of, rows_of}
use Rattle.zone_index.specs.Placed.{IsIndexOf, action_in, acting, answer_of, entry_action, entry_for, entry_shown, one_does, place_by, row_place, is_same_place, rules_shown, several_do, stored_at, with_action}
use Rattle.zone_index.specs.Rules.{live_trigger, rules_of}
use Rattle.trie_keys.proofs.ByKey.{at_itself, apart_from, ordered-others}
use Rattle.zone_index.proofs.Numbered.{AreFound, all_by, found_at, numbers}
use Rattle.trie_keys.proofs.OneList.{none_found}
use Rattle.zone_index.proofs.OnlyRules.{only_rules}
use Rattle.zone_index.proofs.SameAction.{pattern_order_total}
use Rattle.zone_index.proofs.Ties.{NameLaws}

-- what an entry does, if there is one
abbrev pub entry_does : List PlainStored → Option PlainEntry → Option Action
entry_does rows None = None
entry_does rows (Some e) = entry_action rows e

module _ {K : Type 0} (rows : List PlainStored) where
  keys_by : (P : K → Type 0) (k : K) (a : Option Action) (rest : List (K × Action)) → P k → AllByRecursion P (keys_of rest) → AllByRecursion P (keys_of (with_action k a rest))
  keys_by P k None rest h all = all
  keys_by P k (Some a) rest h all = (h, all)

  pub acting_keys : (P : K → Type 0) (es : List (K × PlainEntry)) → AllByRecursion P (keys_of es) → AllByRecursion P (keys_of (acting rows es))
  acting_keys P [] all = tt
  acting_keys P (e ∷ es) all = keys_by P e.0 (entry_action rows e.1) (acting rows es) all.0 (acting_keys P es all.1)

  module _ {R : K → K → Ordering} (o : IsTotalOrder R) where
    sorted_by : (k : K) (a : Option Action) (rest : List (K × Action)) → AllByRecursion (λ y. R k y ≡ Less) (keys_of rest) → IsStrictlySortedBy R (keys_of rest) → IsStrictlySortedBy R (keys_of (with_action k a rest))
    unfolding IsStrictlySortedBy
    sorted_by k None rest above s = s
    sorted_by k (Some a) rest above s = (above, s)

    pub acting_sorted : (es : List (K × PlainEntry)) → IsStrictlySortedBy R (keys_of es) → IsStrictlySortedBy R (keys_of (acting rows es))
    unfolding IsStrictlySortedBy
    acting_sorted [] s = s
    acting_sorted (e ∷ es) s = sorted_by e.0 (entry_action rows e.1) (acting rows es) (acting_keys (λ y. R e.0 y ≡ Less) es s.0) (acting_sorted es s.1)

    found_by : (q : K) (e : K × PlainEntry) (es : List (K × PlainEntry)) (a : Option Action) (b : Bool) → entry_action rows e.1 ≡ a → is_at (R q) e.0 ≡ b → IsStrictlySortedBy R (keys_of (e ∷ es))
        → lookup (is_at (R q)) (acting rows es) ≡ entry_does rows (lookup (is_at (R q)) es)
        → lookup (is_at (R q)) (with_action e.0 a (acting rows es)) ≡ entry_does rows (cond b (Some e.1) (lookup (is_at (R q)) es))
    found_by q e es (Some a) true ea eb s others = ap (λ (b : Bool). cond b (Some a) (lookup (is_at (R q)) (acting rows es))) eb ∙ sym ea
    found_by q e es (Some a) false ea eb s others = ap (λ (b : Bool). cond b (Some a) (lookup (is_at (R q)) (acting rows es))) eb ∙ others
    found_by q e es None true ea eb s others = none_found o q (acting rows es) (acting_keys (λ y. is_at (R q) y ≡ false) es (apart_from o q e es eb s)) ∙ sym ea
    found_by q e es None false ea eb s others = others

    pub lookup-acting : (q : K) (es : List (K × PlainEntry)) → IsStrictlySortedBy R (keys_of es) → lookup (is_at (R q)) (acting rows es) ≡ entry_does rows (lookup (is_at (R q)) es)
    lookup-acting q [] s = refl
    lookup-acting q (e ∷ es) s = found_by q e es (entry_action rows e.1) (is_at (R q) e.0) refl refl s (lookup-acting q es (ordered-others o e es s))

    -- each entry stands at its key
    pub all_at : (es : List (K × PlainEntry)) → IsStrictlySortedBy R (keys_of es) → AllByRecursion (λ e. lookup (is_at (R e.0)) es ≡ Some e.1) es
    unfolding IsStrictlySortedBy
    all_at [] s = tt
    all_at (e ∷ es) s = (
      ap (λ (b : Bool). cond b (Some e.1) (lookup (is_at (R e.0)) es)) (at_itself o e.0),
      behind es s.0 (all_at es s.1),
    )
      where
        behind : (fs : List (K × PlainEntry)) → AllByRecursion (λ y. R e.0 y ≡ Less) (keys_of fs) → AllByRecursion (λ f. lookup (is_at (R f.0)) es ≡ Some f.1) fs
            → AllByRecursion (λ f. lookup (is_at (R f.0)) (e ∷ es) ≡ Some f.1) fs
        behind [] above all = tt
        behind (f ∷ fs) above all = (
          ap (λ (b : Bool). cond b (Some e.1) (lookup (is_at (R f.0)) es)) (ap is_eq (o.antisymm f.0 e.0 ∙ ap ordering_reverse above.0)) ∙ all.0,
          behind fs above.1 all.1,
        )

  -- ---- what a scan finds

  scan_by : (p : K → Bool) (e : K × PlainEntry) (es : List (K × PlainEntry)) (a : Option Action) (b : Bool) → entry_action rows e.1 ≡ a → p e.0 ≡ b → is_some a ≡ acts e.1.does
      → find (λ e. p e.0) (acting rows es) ≡ entry_shown rows (find (λ e. p e.0 && acts e.1.does) es)
      → find (λ e. p e.0) (with_action e.0 a (acting rows es)) ≡ entry_shown rows (cond (b && acts e.1.does) (Some e) (find (λ e. p e.0 && acts e.1.does) es))
  scan_by p e es (Some a) true ea eb h others =
      ap (λ (b : Bool). cond b (Some (e.0, a)) (find (λ e. p e.0) (acting rows es))) eb
      ∙ ap (option_map (λ a. (e.0, a))) (sym ea)
      ∙ ap (λ (b : Bool). entry_shown rows (cond b (Some e) (find (λ e. p e.0 && acts e.1.does) es))) h
  scan_by p e es (Some a) false ea eb h others = ap (λ (b : Bool). cond b (Some (e.0, a)) (find (λ e. p e.0) (acting rows es))) eb ∙ others
  scan_by p e es None true ea eb h others = others ∙ ap (λ (b : Bool). entry_shown rows (cond b (Some e) (find (λ e. p e.0 && acts e.1.does) es))) h
  scan_by p e es None false ea eb h others = others

  abbrev pub DoAct : List (K × PlainEntry) → Type 0
  DoAct es = AllByRecursion (λ e. is_some (entry_action rows e.1) ≡ acts e.1.does) es

  pub scan_acting : (p : K → Bool) (es : List (K × PlainEntry)) → DoAct es → find (λ e. p e.0) (acting rows es) ≡ entry_shown rows (find (λ e. p e.0 && acts e.1.does) es)
  scan_acting p [] all = refl
  scan_acting p (e ∷ es) all = scan_by p e es (entry_action rows e.1) (p e.0) refl refl all.0 (scan_acting p es all.1)

  some_by : (e : K × PlainEntry) (es : List (K × PlainEntry)) (a : Option Action) → is_some a ≡ acts e.1.does → some_acts es ≡ has_some (acting rows es) → (acts e.1.does || some_acts es) ≡ has_some (with_action e.0 a (acting rows es))
  some_by e es None h others = ap (λ (b : Bool). b || some_acts es) (sym h) ∙ others
  some_by e es (Some a) h others = ap (λ (b : Bool). b || some_acts es) (sym h)

  -- some entry acts, so there is a rule
  pub some_acting : (es : List (K × PlainEntry)) → DoAct es → some_acts es ≡ has_some (acting rows es)
  some_acting [] all = refl
  some_acting (e ∷ es) all = some_by e es (entry_action rows e.1) all.0 (some_acting es all.1)

-- ---- what the rows of a place do

-- local data of one row are this row
abbrev IsItsData : PlainRow → Option Action → Type 0
IsItsData row None = Unit {0}
IsItsData row (Some actions.NxDomain) = Unit {0}
IsItsData row (Some actions.NoData) = Unit {0}
IsItsData row (Some actions.PassThru) = Unit {0}
IsItsData row (Some actions.Drop) = Unit {0}
IsItsData row (Some actions.TcpOnly) = Unit {0}
IsItsData row (Some (actions.Local rows)) = rows ≡ local_row row ∷ []

either_data : (row : PlainRow) (b : Bool) (x y : Option Action) → IsItsData row x → IsItsData row y → IsItsData row (if b then x else y)
either_data row true x y h k = h
either_data row false x y h k = k

cname_data : (own : Option PlainPattern) (row : PlainRow) → IsItsData row (cname_action own row)
unfolding cname_action
cname_data own row =
    let passes : Option Action = Some actions.PassThru in
    let own_or : Option Action = if is_own_name own row.rdata then passes else local_alone row in
    let reserved_or : Option Action = if is_reserved_name row.rdata then None else own_or in
    let tcp_or : Option Action = if points_to row.rdata (codes "rpz-tcp-only" ∷ []) then Some actions.TcpOnly else reserved_or in
    let drop_or : Option Action = if points_to row.rdata (codes "rpz-drop" ∷ []) then Some actions.Drop else tcp_or in
    let pass_or : Option Action = if points_to row.rdata (codes "rpz-passthru" ∷ []) then passes else drop_or in
    let data_or : Option Action = if points_to row.rdata (codes "*" ∷ []) then Some actions.NoData else pass_or in
    let own_h : IsItsData row own_or = either_data row (is_own_name own row.rdata) passes (local_alone row) tt refl in
    let reserved_h : IsItsData row reserved_or = either_data row (is_reserved_name row.rdata) None own_or tt own_h in
    let tcp_h : IsItsData row tcp_or = either_data row (points_to row.rdata (codes "rpz-tcp-only" ∷ [])) (Some actions.TcpOnly) reserved_or tt reserved_h in
    let drop_h : IsItsData row drop_or = either_data row (points_to row.rdata (codes "rpz-drop" ∷ [])) (Some actions.Drop) tcp_or tt tcp_h in
    let pass_h : IsItsData row pass_or = either_data row (points_to row.rdata (codes "rpz-passthru" ∷ [])) passes drop_or tt drop_h in
    let data_h : IsItsData row data_or = either_data row (points_to row.rdata (codes "*" ∷ [])) (Some actions.NoData) pass_or tt pass_h in
    either_data row (points_to row.rdata []) (Some actions.NxDomain) data_or tt data_h

one_data : (own : Option PlainPattern) (row : PlainRow) → IsItsData row (one_action own row)
one_data own row = either_data row (is_cname row) (cname_action own row) (local_alone row) (cname_data own row) refl

alone_by : (rows : List PlainStored) (s : PlainStored) (action : Option Action) → row_of_number s.number rows ≡ Some s → IsItsData (plain_row s) action → action_in rows (s.number ∷ []) (one_does action) ≡ action
alone_by rows s None found h = refl
alone_by rows s (Some actions.NxDomain) found h = refl
alone_by rows s (Some actions.NoData) found h = refl
alone_by rows s (Some actions.PassThru) found h = refl
alone_by rows s (Some actions.Drop) found h = refl
alone_by rows s (Some actions.TcpOnly) found h = refl
alone_by rows s (Some (actions.Local local)) found h = ap answer_of found ∙ ap (λ (l : List PlainLocal). Some (actions.Local l)) (sym h)

several_by : (rows : List PlainStored) (ns : List ℕ) (action : Option Action) → action_in rows ns (several_do action) ≡ action
several_by rows ns None = refl
several_by rows ns (Some actions.NxDomain) = refl
several_by rows ns (Some actions.NoData) = refl
several_by rows ns (Some actions.PassThru) = refl
several_by rows ns (Some actions.Drop) = refl
several_by rows ns (Some actions.TcpOnly) = refl
several_by rows ns (Some (actions.Local local)) = refl

-- the entry of a trigger does what its rows do
pub entry_is : (rows some : List PlainStored) (t : Trigger) → AreFound rows some → entry_does rows (entry_for (Rule t) some) ≡ action_by t (map plain_row some)
entry_is rows [] t all = refl
entry_is rows (s ∷ []) t all = alone_by rows s (action_by t (plain_row s ∷ [])) all.0 (one_data (own_pattern t) (plain_row s))
entry_is rows (s ∷ other ∷ some) t all = several_by rows (numbers (s ∷ other ∷ some)) (action_by t (map plain_row (s ∷ other ∷ some)))

of_place : (t : Trigger) (owner : List (List ℕ)) (live : Option Trigger) → is_same_place (Rule t) (place_by owner live) ≡ is_of t live
of_place t owner None = refl
of_place t owner (Some u) = refl

rows_by : (f : PlainRow → Bool) (g : PlainStored → Bool) (s : PlainStored) (ss : List PlainStored) (b : Bool) → g s ≡ b → g s ≡ f (plain_row s) → map plain_row (filter g ss) ≡ filter f (map plain_row ss)
    → map plain_row (cond b (s ∷ filter g ss) (filter g ss)) ≡ cond (f (plain_row s)) (plain_row s ∷ filter f (map plain_row ss)) (filter f (map plain_row ss))
rows_by f g s ss true e same others = ap (λ (l : List PlainRow). plain_row s ∷ l) others ∙ ap (λ (b : Bool). cond b (plain_row s ∷ filter f (map plain_row ss)) (filter f (map plain_row ss))) (sym e ∙ same)
rows_by f g s ss false e same others = others ∙ ap (λ (b : Bool). cond b (plain_row s ∷ filter f (map plain_row ss)) (filter f (map plain_row ss))) (sym e ∙ same)

pub rows_at : (origin : List (List ℕ)) (t : Trigger) (rows : List PlainStored) → map plain_row (stored_at origin rows (Rule t)) ≡ rows_of origin (map plain_row rows) t
rows_at origin t [] = refl
rows_at origin t (s ∷ ss) =
    rows_by (λ row. is_of t (live_trigger origin row)) (λ s. is_same_place (Rule t) (row_place origin (plain_row s))) s ss (is_same_place (Rule t) (row_place origin (plain_row s))) refl
    (of_place t (plain_row s).owner (live_trigger origin (plain_row s))) (rows_at origin t ss)

-- ---- the rules

module _ (laws : NameLaws) (origin : List (List ℕ)) (rows : List PlainStored) (next : ℕ) (places : PlainPlaces)
    (rise : NumbersRise 0 rows next) (index : IsIndexOf origin rows places) (ranked : AreRanked places) (lower : AreLower places) where
  shown_at : (t : Trigger) → rule_at (rules_shown rows places) t ≡ entry_does rows (entry_at places (Rule t))
  shown_at (ClientIp p) = lookup-acting rows prefix_order_total p places.rules.client_ip ranked.client_ip
  shown_at (Qname p) = lookup-acting rows pattern_order_total p places.rules.qname ranked.qname
  shown_at (ResponseIp p) = lookup-acting rows prefix_order_total p places.rules.response_ip ranked.response_ip
  shown_at (NsDname p) = lookup-acting rows pattern_order_total p places.rules.nsdname ranked.nsdname
  shown_at (NsIp p) = lookup-acting rows prefix_order_total p places.rules.nsip ranked.nsip

  does_at : (t : Trigger) → IsTrigger t → rule_at (rules_shown rows places) t ≡ action_by t (rows_of origin (map plain_row rows) t)
  does_at t is =
      shown_at t
      ∙ ap (entry_does rows) (index (Rule t) is)
      ∙ entry_is rows (stored_at origin rows (Rule t)) t (found_at origin next rows (Rule t) rise)
      ∙ ap (action_by t) (rows_at origin t rows)

  -- the entries stand for the rules of the zone
  pub shown_rules : All IsRow (map plain_row rows) → rules_shown rows places ≡ rules_of origin (map plain_row rows)
  shown_rules are =
      only_rules laws origin (map plain_row rows) (rules_shown rows places) are
      (record { qname = acting_keys rows IsPattern places.rules.qname lower.qname; nsdname = acting_keys rows IsPattern places.rules.nsdname lower.nsdname })
      (record {
        client_ip = acting_sorted rows prefix_order_total places.rules.client_ip ranked.client_ip;
        qname = acting_sorted rows pattern_order_total places.rules.qname ranked.qname;
        response_ip = acting_sorted rows prefix_order_total places.rules.response_ip ranked.response_ip;
        nsdname = acting_sorted rows pattern_order_total places.rules.nsdname ranked.nsdname;
        nsip = acting_sorted rows prefix_order_total places.rules.nsip ranked.nsip;
      })
      does_at

  -- ---- the entries that act are those whose rows do something

  acts_alone : (s : PlainStored) (action : Option Action) → row_of_number s.number rows ≡ Some s → is_some (action_in rows (s.number ∷ []) (one_does action)) ≡ acts (one_does action)
  acts_alone s None found = refl
  acts_alone s (Some actions.NxDomain) found = refl
  acts_alone s (Some actions.NoData) found = refl
  acts_alone s (Some actions.PassThru) found = refl
  acts_alone s (Some actions.Drop) found = refl
  acts_alone s (Some actions.TcpOnly) found = refl
  acts_alone s (Some (actions.Local local)) found = ap (λ (f : Option PlainStored). is_some (answer_of f)) found

  acts_several : (ns : List ℕ) (action : Option Action) → is_some (action_in rows ns (several_do action)) ≡ acts (several_do action)
  acts_several ns None = refl
  acts_several ns (Some actions.NxDomain) = refl
  acts_several ns (Some actions.NoData) = refl
  acts_several ns (Some actions.PassThru) = refl
  acts_several ns (Some actions.Drop) = refl
  acts_several ns (Some actions.TcpOnly) = refl
  acts_several ns (Some (actions.Local local)) = refl

  abbrev DoesAct : Option PlainEntry → Type 0
  DoesAct None = Unit {0}
  DoesAct (Some e) = is_some (entry_action rows e) ≡ acts e.does

  act_for : (t : Trigger) (some : List PlainStored) → AreFound rows some → DoesAct (entry_for (Rule t) some)
  act_for t [] all = tt
  act_for t (s ∷ []) all = acts_alone s (action_by t (plain_row s ∷ [])) all.0
  act_for t (s ∷ other ∷ some) all = acts_several (numbers (s ∷ other ∷ some)) (action_by t (map plain_row (s ∷ other ∷ some)))

  act_at : (t : Trigger) (e : PlainEntry) → IsTrigger t → entry_at places (Rule t) ≡ Some e → is_some (entry_action rows e) ≡ acts e.does
  act_at t e is at =
      subst DoesAct at (subst DoesAct (sym (index (Rule t) is)) (act_for t (stored_at origin rows (Rule t)) (found_at origin next rows (Rule t) rise)))

  both : {X : Type 0} (P Q S : X → Type 0) → ((x : X) → P x → Q x → S x) → (xs : List X) → AllByRecursion P xs → AllByRecursion Q xs → AllByRecursion S xs
  both P Q S f [] p q = tt
  both P Q S f (x ∷ xs) p q = (f x p.0 q.0, both P Q S f xs p.1 q.1)

  of_keys : {K : Type 0} (P : K → Type 0) (es : List (K × PlainEntry)) → AllByRecursion P (keys_of es) → AllByRecursion (λ e. P e.0) es
  of_keys P [] all = tt
  of_keys P (e ∷ es) all = (all.0, of_keys P es all.1)

  prefixes_act : (kind : PlainPrefix → Trigger) (es : List (PlainPrefix × PlainEntry)) → ((p : PlainPrefix) → IsTrigger (kind p)) → ((p : PlainPrefix) → entry_at places (Rule (kind p)) ≡ lookup (is_at (prefix_order p)) es)
      → IsStrictlySortedBy prefix_order (keys_of es) → DoAct rows es
  prefixes_act kind es is at sorted = all_by (λ e. lookup (is_at (prefix_order e.0)) es ≡ Some e.1) (λ e. is_some (entry_action rows e.1) ≡ acts e.1.does) (λ e h. act_at (kind e.0) e.1 (is e.0) (at e.0 ∙ h)) es (all_at rows prefix_order_total es sorted)

  patterns_act : (kind : PlainPattern → Trigger) (es : List (PlainPattern × PlainEntry)) → ((p : PlainPattern) → IsPattern p → IsTrigger (kind p)) → ((p : PlainPattern) → entry_at places (Rule (kind p)) ≡ lookup (is_at (pattern_order p)) es)
      → IsStrictlySortedBy pattern_order (keys_of es) → AllByRecursion IsPattern (keys_of es) → DoAct rows es
  patterns_act kind es is at sorted named =
      both (λ e. IsPattern e.0) (λ e. lookup (is_at (pattern_order e.0)) es ≡ Some e.1) (λ e. is_some (entry_action rows e.1) ≡ acts e.1.does) (λ e p h. act_at (kind e.0) e.1 (is e.0 p) (at e.0 ∙ h)) es (of_keys IsPattern es named)
      (all_at rows pattern_order_total es sorted)

  pub client_ip_acts : DoAct rows places.rules.client_ip
  client_ip_acts = prefixes_act ClientIp places.rules.client_ip (λ p. tt) (λ p. refl) ranked.client_ip

  pub qname_acts : DoAct rows places.rules.qname
  qname_acts = patterns_act Qname places.rules.qname (λ p h. h) (λ p. refl) ranked.qname lower.qname

  pub response_ip_acts : DoAct rows places.rules.response_ip
  response_ip_acts = prefixes_act ResponseIp places.rules.response_ip (λ p. tt) (λ p. refl) ranked.response_ip

  pub nsdname_acts : DoAct rows places.rules.nsdname
  nsdname_acts = patterns_act NsDname places.rules.nsdname (λ p h. h) (λ p. refl) ranked.nsdname lower.nsdname

  pub nsip_acts : DoAct rows places.rules.nsip
  nsip_acts = prefixes_act NsIp places.rules.nsip (λ p. tt) (λ p. refl) ranked.nsip

  -- ---- look-ups

  module _ (are : All IsRow (map plain_row rows)) where
    abbrev rules : PlainRules
    rules = rules_of origin (map plain_row rows)

    pub client_ip_found : (addr : Addr) (found : Option (PlainPrefix × PlainEntry)) → found ≡ longest_rule addr places.rules.client_ip → entry_shown rows found ≡ longest addr rules.client_ip
    client_ip_found addr found e = ap (entry_shown rows) e ∙ sym (scan_acting rows (λ p. contains p addr) places.rules.client_ip client_ip_acts) ∙ ap (λ (r : PlainRules). longest addr r.client_ip) (shown_rules are)

    pub qname_found : (name : List (List ℕ)) (found : Option (PlainPattern × PlainEntry)) → found ≡ best_rule name places.rules.qname → entry_shown rows found ≡ best name rules.qname
    qname_found name found e = ap (entry_shown rows) e ∙ sym (scan_acting rows (λ p. matches p name) places.rules.qname qname_acts) ∙ ap (λ (r : PlainRules). best name r.qname) (shown_rules are)

    pub response_ip_found : (addr : Addr) (found : Option (PlainPrefix × PlainEntry)) → found ≡ longest_rule addr places.rules.response_ip → entry_shown rows found ≡ longest addr rules.response_ip
    response_ip_found addr found e = ap (entry_shown rows) e ∙ sym (scan_acting rows (λ p. contains p addr) places.rules.response_ip response_ip_acts) ∙ ap (λ (r : PlainRules). longest addr r.response_ip) (shown_rules are)

    pub nsdname_found : (name : List (List ℕ)) (found : Option (PlainPattern × PlainEntry)) → found ≡ best_rule name places.rules.nsdname → entry_shown rows found ≡ best name rules.nsdname
    nsdname_found name found e = ap (entry_shown rows) e ∙ sym (scan_acting rows (λ p. matches p name) places.rules.nsdname nsdname_acts) ∙ ap (λ (r : PlainRules). best name r.nsdname) (shown_rules are)

    pub nsip_found : (addr : Addr) (found : Option (PlainPrefix × PlainEntry)) → found ≡ longest_rule addr places.rules.nsip → entry_shown rows found ≡ longest addr rules.nsip
    nsip_found addr found e = ap (entry_shown rows) e ∙ sym (scan_acting rows (λ p. contains p addr) places.rules.nsip nsip_acts) ∙ ap (λ (r : PlainRules). longest addr r.nsip) (shown_rules are)

    pub rule_found : (t : Trigger) (found : Option PlainEntry) → found ≡ entry_at places (Rule t) → entry_does rows found ≡ rule_at rules t
    rule_found t found e = ap (entry_does rows) e ∙ sym (shown_at t) ∙ ap (λ (r : PlainRules). rule_at r t) (shown_rules are)

    pub kind_found : (kind : Kind) → has_rule places.rules kind ≡ has_kind rules kind
    kind_found kinds.ClientIp = some_acting rows places.rules.client_ip client_ip_acts ∙ ap (λ (r : PlainRules). has_some r.client_ip) (shown_rules are)
    kind_found kinds.Qname = some_acting rows places.rules.qname qname_acts ∙ ap (λ (r : PlainRules). has_some r.qname) (shown_rules are)
    kind_found kinds.ResponseIp = some_acting rows places.rules.response_ip response_ip_acts ∙ ap (λ (r : PlainRules). has_some r.response_ip) (shown_rules are)
    kind_found kinds.NsDname = some_acting rows places.rules.nsdname nsdname_acts ∙ ap (λ (r : PlainRules). has_some r.nsdname) (shown_rules are)
    kind_found kinds.NsIp = some_acting rows places.rules.nsip nsip_acts ∙ ap (λ (r : PlainRules). has_some r.nsip) (shown_rules are)
