-- What holds of a field that is read.
use Rattle.std.proofs.Common.{◌≡◌, ℕ, ◌≤◌, true, false, not, eqb, ltb, leb, List, [], ◌∷◌, length, Result, Ok, Err, subst, arith}
use Rattle.std.specs.List.{AllByRecursion}
use Rattle.std.proofs.lemmas.Bool.{cond_both, eqb-false, ltb-false, leb-true, leb-false, and_parts, not-false}
use Rattle.dns_name.specs.Labels.{IsLabel, IsName, name_octets}
use Rattle.dns_name.specs.Text.{has_label_lengths, has_text_bytes, text_labels, text_name, without_last_dot}
use Rattle.dns_name.specs.declared.limits.TheConstants.{LABEL_LIMIT, NAME_LIMIT}
use Rattle.ip_prefix.specs.Prefix.{PlainPrefix}
use Rattle.networks.specs.declared.allow_list.TheConstants.{NETWORK_LIMIT}
use Rattle.zone_rows.specs.declared.zone.TheConstants.{ZONE_LIMIT}
use Rattle.dns_name.specs.declared.fault.TextFault.{TextFault}
use Rattle.script_codec.specs.declared.field.TheConstants.{MESSAGE_BYTES}
use Rattle.script_codec.specs.declared.state.TheConstants.{WORKERS}
use Rattle.script_codec.specs.declared.line_fault.LineFault.TheVariants as why
use Rattle.script_codec.specs.Field.{or_refused, name_field, number_field, zone_field, worker_field, bytes_field, message_field}
use Rattle.script_codec.specs.Outcome.{refuse_if}
use Rattle.script_codec.specs.State.{PlainState, opening, running, opens, takes_network, takes_primary}
use Rattle.script_codec.specs.Within.{IsWorker, IsMessage, MayAllow, MayOpen, MayHavePrimary}
use Rattle.dns_name.proofs.Binding.{bind_ok, ok_is}
use Rattle.script_codec.proofs.Binding.{not_refused}

-- zones

not_zero : (n : ℕ) → eqb n 0 ≡ false → 1 ≤ n
not_zero n h = omega (arith, eqb-false n 0 h)

pub zone_bounds : (zones : ℕ) (digits : List ℕ) (zone : ℕ) → zone_field zones digits ≡ Ok zone → (1 ≤ zone) × (zone ≤ zones)
unfolding zone_field
zone_bounds zones digits zone e =
    let a = bind_ok (number_field digits) _ zone e in
    let b = bind_ok (refuse_if (eqb a.0 0) why.NoZone) _ zone a.2 in
    let c = bind_ok (refuse_if (ltb zones a.0) why.NoZone) _ zone b.2 in
    subst (λ n. (1 ≤ n) × (n ≤ zones)) (ok_is a.0 zone c.2) (not_zero a.0 (not_refused _ why.NoZone b.0 b.1), ltb-false zones a.0 (not_refused _ why.NoZone c.0 c.1))

-- workers

pub worker_bounds : (digits : List ℕ) (worker : ℕ) → worker_field digits ≡ Ok worker → IsWorker worker
unfolding worker_field
worker_bounds digits worker e =
    let a = bind_ok (number_field digits) _ worker e in
    let b = bind_ok (refuse_if (leb WORKERS a.0) why.NoWorker) _ worker a.2 in
    subst IsWorker (ok_is a.0 worker b.2) (leb-false WORKERS a.0 (not_refused _ why.NoWorker b.0 b.1))

-- messages

pub message_bounds : (text message : List ℕ) → message_field text ≡ Ok message → IsMessage message
unfolding message_field
message_bounds text message e =
    let a = bind_ok (bytes_field text) _ message e in
    let b = bind_ok (refuse_if (ltb MESSAGE_BYTES (length a.0)) why.Long) _ message a.2 in
    subst IsMessage (ok_is a.0 message b.2) (ltb-false MESSAGE_BYTES (length a.0) (not_refused _ why.Long b.0 b.1))

-- zones that may be opened

pub may_open : (state : PlainState) (origin : List (List ℕ)) (u : Unit {0}) → opens state origin ≡ Ok u → MayOpen state origin
unfolding opens
may_open (opening origins primaries allowed) origin u e =
    let a = bind_ok (refuse_if (leb ZONE_LIMIT (length origins)) why.Many) _ u e in
    (leb-false ZONE_LIMIT (length origins) (not_refused _ why.Many a.0 a.1), not_refused _ why.Repeated u a.2)
may_open (running zones pending) origin u e = absurd cc

-- zones that may be given a primary

pub may_have_primary : (state : PlainState) (zone : ℕ) (u : Unit {0}) → takes_primary state zone ≡ Ok u → MayHavePrimary state zone
unfolding takes_primary
may_have_primary (opening origins primaries allowed) zone u e = not_refused _ why.Repeated u e
may_have_primary (running zones pending) zone u e = absurd cc

-- networks that may be allowed

pub may_allow : (state : PlainState) (network : PlainPrefix) (u : Unit {0}) → takes_network state network ≡ Ok u → MayAllow state network
unfolding takes_network
may_allow (opening origins primaries allowed) network u e =
    let a = bind_ok (refuse_if (leb NETWORK_LIMIT (length allowed)) why.Many) _ u e in
    (leb-false NETWORK_LIMIT (length allowed) (not_refused _ why.Many a.0 a.1), not_refused _ why.Repeated u a.2)
may_allow (running zones pending) network u e = absurd cc

-- names

labels_are : (labels : List (List ℕ)) → has_label_lengths labels ≡ true → AllByRecursion IsLabel labels
labels_are [] h = tt
labels_are (label ∷ labels) h =
    let both = and_parts _ _ h in
    let parts = and_parts _ _ both.0 in
    (record { not_empty = leb-true 1 (length label) parts.0; short = leb-true (length label) LABEL_LIMIT parts.1 }, labels_are labels both.1)

one_name : {A : Type 0} (x y : A) → (let r : Result A TextFault = Ok x in r ≡ Ok y) → x ≡ y
one_name x y e = cc

abbrev GivesName : List (List ℕ) → Result (List (List ℕ)) TextFault → Type 0
GivesName name read = read ≡ Ok name → IsName name

pub text_is_name : (text : List ℕ) (name : List (List ℕ)) → text_name text ≡ Ok name → IsName name
unfolding text_name
text_is_name text name =
    cond_both (eqb (length (without_last_dot text)) 0) _ _ (GivesName name)
    (λ t e. absurd cc)
    (λ t. cond_both (not (has_text_bytes text)) _ _ (GivesName name)
    (λ t e. absurd cc)
    (λ t. cond_both (not (has_label_lengths (text_labels text))) _ _ (GivesName name)
    (λ t e. absurd cc)
    (λ lengths. cond_both (ltb NAME_LIMIT (length (name_octets (text_labels text)))) _ _ (GivesName name)
    (λ t e. absurd cc)
    (λ short e. subst IsName (one_name (text_labels text) name e) (record { labels = labels_are (text_labels text) (not-false _ lengths); short = ltb-false NAME_LIMIT _ short })))))

refused_or : (r : Result (List (List ℕ)) TextFault) (name : List (List ℕ)) → or_refused r why.Name ≡ Ok name → r ≡ Ok name
refused_or (Ok x) name e = cc
refused_or (Err fault) name e = absurd cc

pub name_bounds : (text : List ℕ) (name : List (List ℕ)) → name_field text ≡ Ok name → IsName name
name_bounds text name e = text_is_name text name (refused_or (text_name text) name e)
