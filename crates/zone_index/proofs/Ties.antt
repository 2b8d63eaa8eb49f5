-- Triggers that are at one place in the order of precedence are the same, where the bases of their patterns are names in lower
-- case, as those of the triggers of rows are.
use Rattle.std.proofs.Common.{◌≡◌, ℕ, ◌-◌, ◌==◌, Bool, true, false, IsTrue, ◌↔◌, List, [], ◌∷◌, length, take, Option, Some, None, Result, Ok, Err, refl, sym, ap, ◌∙◌, true≢false}
use Rattle.std.specs.Prelude.{if◌then◌else◌, slice_get}
use Rattle.std.specs.BTreeMap.{is_at}
use Rattle.dns_name.specs.Alike.{PlainPattern, ends_with}
use Rattle.dns_name.specs.Labels.{IsName, name_octets, lowered}
use Rattle.dns_name.proofs.PartLemmas.{IsName-take}
use Rattle.dns_name.proofs.WireLemmas.{IsName-rest, IsName-lowered}
use Rattle.ip_prefix.specs.Prefix.{PlainPrefix, prefix_order}
use Rattle.prefix_index.proofs.Order.{prefix_order_total}
use Rattle.prefix_index.proofs.Same.{same_prefix}
use Rattle.qname_index.specs.Best.{pattern_order}
use Rattle.trigger_codec.specs.Address.{prefix_read}
use Rattle.trigger_codec.specs.Bases.{IsPattern, IsTrigger}
use Rattle.trigger_codec.specs.Decode.{labels_before, pattern_read, by_prefix, by_marker, by_last, labels_trigger, trigger}
use Rattle.trigger_codec.specs.Trigger.{Marker, client_ip, response_ip, nsip, nsdname, unknown, plain, marker_of, is_asterisk}
use Rattle.trigger_codec.specs.declared.inert.Inert.{Inert}
use Rattle.trigger_codec.specs.declared.inert.Inert.TheVariants.{Marker as UnknownMarker}
use Rattle.trigger_codec.specs.declared.trigger.Trigger.{Trigger}
use Rattle.trigger_codec.specs.declared.trigger.Trigger.TheVariants.{ClientIp, Qname, ResponseIp, NsDname, NsIp}
use Rattle.dns_record.specs.Row.{PlainRow}
use Rattle.action_codec.specs.Action.{is_live_type}
use Rattle.zone_index.specs.Listed.{is_same, is_of}
use Rattle.zone_index.specs.Rules.{some_trigger, live_trigger}
use Rattle.trie_keys.proofs.ByKey.{tied_if, at_itself}
use Rattle.zone_index.proofs.SameAction.{pattern_order_total, tied_patterns}

-- what the laws of names say
pub record NameLaws : Type 0 where
  pub by_octets : (name other : List (List ℕ)) → IsName name → IsName other → name_octets name ≡ name_octets other → name ≡ other
  pub lower_once : (name : List (List ℕ)) → lowered (lowered name) ≡ lowered name

-- ---- triggers at one place

pub equal_prefix : (p q : PlainPrefix) → is_at (prefix_order p) q ≡ true → p ≡ q
equal_prefix p q h = same_prefix p q (tied_if (prefix_order p q) h)

pub equal_pattern : NameLaws → (p q : PlainPattern) → IsPattern p → IsPattern q → is_at (pattern_order p) q ≡ true → p ≡ q
equal_pattern laws p q is_p is_q h =
    let ties = tied_patterns p q h in
    let base = laws.by_octets p.base q.base is_p.is_base is_q.is_base ties.octets in
    λ i. record { base = base i; wild = ties.wild i }

pub equal_trigger : NameLaws → (t u : Trigger) → IsTrigger t → IsTrigger u → is_same t u ≡ true → t ≡ u
equal_trigger laws (ClientIp p) (ClientIp q) is_t is_u h = ap ClientIp (equal_prefix p q h)
equal_trigger laws (Qname p) (Qname q) is_t is_u h = ap Qname (equal_pattern laws p q is_t is_u h)
equal_trigger laws (ResponseIp p) (ResponseIp q) is_t is_u h = ap ResponseIp (equal_prefix p q h)
equal_trigger laws (NsDname p) (NsDname q) is_t is_u h = ap NsDname (equal_pattern laws p q is_t is_u h)
equal_trigger laws (NsIp p) (NsIp q) is_t is_u h = ap NsIp (equal_prefix p q h)
equal_trigger laws t u is_t is_u h = absurd (true≢false (sym h))

pub same_itself : (t : Trigger) → is_same t t ≡ true
same_itself (ClientIp p) = at_itself prefix_order_total p
same_itself (Qname p) = at_itself pattern_order_total p
same_itself (ResponseIp p) = at_itself prefix_order_total p
same_itself (NsDname p) = at_itself pattern_order_total p
same_itself (NsIp p) = at_itself prefix_order_total p

pub same_is : NameLaws → (t u : Trigger) → IsTrigger t → IsTrigger u → IsTrue (is_same t u) ↔ (t ≡ u)
same_is laws t u is_t is_u = (equal_trigger laws t u is_t is_u, λ e. ap (is_same t) (sym e) ∙ same_itself t)

-- ---- the triggers of rows

abbrev pub IsTriggerIf : Option Trigger → Type 0
IsTriggerIf None = Unit {0}
IsTriggerIf (Some t) = IsTrigger t

abbrev GivesTrigger : Result Trigger Inert → Type 0
GivesTrigger (Ok t) = IsTrigger t
GivesTrigger (Err inert) = Unit {0}

is_lowered : NameLaws → (base : List (List ℕ)) (wild : Bool) → IsName base → IsPattern (record { base = lowered base; wild = wild })
is_lowered laws base wild h = record { is_base = IsName-lowered base h; is_lower_case = laws.lower_once base }

is_read : NameLaws → (labels : List (List ℕ)) → IsName labels → IsPattern (pattern_read labels)
is_read laws [] h = record { is_base = h; is_lower_case = refl }
is_read laws (first ∷ others) h =
    elim (is_asterisk first) as (λ b. IsPattern (if b then record { base = lowered others; wild = true } else record { base = lowered (first ∷ others); wild = false })) [
      | true ↦ is_lowered laws others true (IsName-rest first others h)
      | false ↦ is_lowered laws (first ∷ others) false h
    ]

-- a kind of prefix has no pattern
named_prefix : (kind : PlainPrefix → Trigger) → ((prefix : PlainPrefix) → IsTrigger (kind prefix)) → (read : Result PlainPrefix Inert) → GivesTrigger (by_prefix kind read)
named_prefix kind h (Ok prefix) = h prefix
named_prefix kind h (Err inert) = tt

named_marker : NameLaws → (marker : Marker) (rest labels : List (List ℕ)) → IsName rest → IsName labels → GivesTrigger (by_marker marker rest labels)
named_marker laws client_ip rest labels h k = named_prefix ClientIp (λ _. tt) (prefix_read rest)
named_marker laws response_ip rest labels h k = named_prefix ResponseIp (λ _. tt) (prefix_read rest)
named_marker laws nsip rest labels h k = named_prefix NsIp (λ _. tt) (prefix_read rest)
named_marker laws nsdname rest labels h k = elim (length rest == 0) as (λ b. GivesTrigger (if b then Err UnknownMarker else Ok (NsDname (pattern_read rest)))) [ true ↦ tt | false ↦ is_read laws rest h ]
named_marker laws unknown rest labels h k = tt
named_marker laws plain rest labels h k = is_read laws labels k

named_last : NameLaws → (last : Option (List ℕ)) (labels : List (List ℕ)) → IsName labels → GivesTrigger (by_last last labels)
named_last laws None labels h = tt
named_last laws (Some last) labels h = named_marker laws (marker_of last) (take (length labels - 1) labels) labels (IsName-take labels (length labels - 1) h) h

named_labels : NameLaws → (labels : List (List ℕ)) → IsName labels → GivesTrigger (labels_trigger labels)
unfolding labels_trigger
named_labels laws labels h = named_last laws (slice_get labels (length labels - 1)) labels h

named_within : (b : Bool) (outcome : Result Trigger Inert) (inert : Inert) → GivesTrigger outcome → GivesTrigger (if b then outcome else Err inert)
named_within true outcome inert h = h
named_within false outcome inert h = tt

named_trigger : NameLaws → (owner origin : List (List ℕ)) → IsName owner → GivesTrigger (trigger owner origin)
unfolding trigger
named_trigger laws owner origin h = named_within (ends_with owner origin) (labels_trigger (labels_before owner origin)) _ (named_labels laws (labels_before owner origin) (IsName-take owner (length owner - length origin) h))

named_some : (outcome : Result Trigger Inert) → GivesTrigger outcome → IsTriggerIf (some_trigger outcome)
named_some (Ok t) h = h
named_some (Err inert) h = tt

named_if : (b : Bool) (live : Option Trigger) → IsTriggerIf live → IsTriggerIf (if b then live else None)
named_if true live h = h
named_if false live h = tt

pub named_live : NameLaws → (origin : List (List ℕ)) (row : PlainRow) → IsName row.owner → IsTriggerIf (live_trigger origin row)
named_live laws origin row h = named_if (is_live_type row.rtype) (some_trigger (trigger row.owner origin)) (named_some (trigger row.owner origin) (named_trigger laws row.owner origin h))

pub equal_live : NameLaws → (t : Trigger) (live : Option Trigger) → IsTrigger t → IsTriggerIf live → is_of t live ≡ true → live ≡ Some t
equal_live laws t None is_t is_live h = absurd (true≢false (sym h))
equal_live laws t (Some u) is_t is_live h = ap Some (sym (equal_trigger laws t u is_t is_live h))

-- a row is one of a trigger exactly if this is its trigger
pub of_is : NameLaws → (origin : List (List ℕ)) (row : PlainRow) (t : Trigger) → IsName row.owner → IsTrigger t → IsTrue (is_of t (live_trigger origin row)) ↔ (live_trigger origin row ≡ Some t)
of_is laws origin row t is_owner is_t = (
  equal_live laws t (live_trigger origin row) is_t (named_live laws origin row is_owner),
  λ e. ap (is_of t) e ∙ same_itself t,
)
