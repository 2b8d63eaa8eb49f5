-- What the summaries know of a policy: at its start, kind by kind, and where a zone is put into the place of another.
use Rattle.std.proofs.Common.{◌≡◌, ℕ, ◌-◌, ◌≤◌, ◌<◌, ◌==◌, Bool, true, false, cond, List, [], ◌∷◌, length, map, Option, Some, None, refl, sym, subst, ◌∙◌, true≢false, arith}
use Rattle.std.specs.Prelude.{IfSome, IsSome, slice_get}
use Rattle.std.specs.List.{list_any}
use Rattle.std.specs.Option.{option_map}
use Rattle.std.specs.declared.cmp.Ordering.{Ordering}
use Rattle.std.proofs.lemmas.Bool.Decides.{nat_tests}
use Rattle.std.proofs.lemmas.Option.{slice_get-map, slice_get_within}
use Rattle.dns_name.specs.Labels.{Name}
use Rattle.trigger_codec.specs.declared.trigger.Kind.{Kind}
use Rattle.trigger_codec.specs.declared.trigger.Kind.TheVariants as kinds
use Rattle.summary_index.specs.Knowing.{Knows}
use Rattle.summary_index.specs.Summary.{no_rules}
use Rattle.summary_index.specs.Zones.{has_zone}
use Rattle.zone_index.specs.Addresses.{has_some}
use Rattle.zone_index.specs.Kinds.{has_kind}
use Rattle.zone_index.specs.Changes.{AreChanges}
use Rattle.zone_index.specs.declared.changes.Changes.{Changes}
use Rattle.zone_rows.specs.Content.{unloaded}
use Rattle.zone_rows.specs.declared.zone.Content.{Content}
use Rattle.zone_rows.specs.declared.zone.PlainZone.{PlainZone}
use Rattle.policy_snapshot.specs.Knowing.{KnowsAll, no_summaries, zones_having}
use Rattle.policy_snapshot.specs.Listing.{AreChangesAt, IsThere, KnowsPatterns, KnowsPrefixes, zones_before}
use Rattle.policy_snapshot.specs.Lookup.{has_kind_in}
use Rattle.policy_snapshot.specs.Policy.{PlainZones, zone_at}
use Rattle.policy_snapshot.specs.Summed.{KnowsZone, PlainSummaries, content_entries}
use Rattle.policy_snapshot.specs.declared.new_zone.NewZone.{NewZone}
use Rattle.policy_snapshot.proofs.ListedRules.{no_zone}
use Rattle.policy_snapshot.proofs.NewZones.{at_place}
use Rattle.zone_rows.specs.declared.zone.TheConstants.{ZONE_LIMIT}

some_is : (x y : PlainZone) → Some x ≡ Some y → x ≡ y
some_is x y e = cc e

-- ---- a number that a zone has

get_by : (found : Option PlainZone) (zones : PlainZones) (k : ℕ) → slice_get zones k ≡ found → IsSome found → k < length zones
get_by None zones k e h = absurd (true≢false (sym h))
get_by (Some zone) zones k e h = slice_get_within zones k zone e

number_by : (b : Bool) (zones : PlainZones) (number : ℕ) → (number == 0) ≡ b → IsSome (cond b None (slice_get zones (number - 1))) → (1 ≤ number) × (number ≤ length zones)
number_by true zones number e h = absurd (true≢false (sym h))
number_by false zones number e h =
    let lt : number - 1 < length zones = get_by (slice_get zones (number - 1)) zones (number - 1) refl h in
    let some : 1 ≤ number = grind (arith, nat_tests, e) in
    (some, omega (arith, lt, some))

pub number_there : (zones : PlainZones) (number : ℕ) → IsSome (zone_at zones number) → (1 ≤ number) × (number ≤ length zones)
number_there zones number there = number_by (number == 0) zones number refl there

-- ---- rules of a kind

pub some_any : {X : Type 0} (xs : List X) → has_some xs ≡ list_any (λ _. true) xs
some_any [] = refl
some_any (x ∷ xs) = refl

nothing_of : (kind : Kind) (origin : Name) → false ≡ has_kind (content_entries origin None) kind
nothing_of kinds.ClientIp origin = refl
nothing_of kinds.Qname origin = refl
nothing_of kinds.ResponseIp origin = refl
nothing_of kinds.NsDname origin = refl
nothing_of kinds.NsIp origin = refl

kind_in : (kind : Kind) (origin : Name) (content : Option Content) → has_kind_in kind origin content ≡ has_kind (content_entries origin content) kind
kind_in kind origin None = nothing_of kind origin
kind_in kind origin (Some content) = refl

having_by : (n : ℕ) (origin : Name) (content : Option Content) (s : PlainSummaries) → KnowsZone n (content_entries origin content) s → (kind : Kind) → has_zone (zones_having s kind) n ≡ has_kind (content_entries origin content) kind
having_by n origin content s knows kinds.ClientIp = knows.client_ip.having ∙ sym (some_any (content_entries origin content).client_ip)
having_by n origin content s knows kinds.Qname = knows.qname.having ∙ sym (some_any (content_entries origin content).qname)
having_by n origin content s knows kinds.ResponseIp = knows.response_ip.having ∙ sym (some_any (content_entries origin content).response_ip)
having_by n origin content s knows kinds.NsDname = knows.nsdname.having ∙ sym (some_any (content_entries origin content).nsdname)
having_by n origin content s knows kinds.NsIp = knows.nsip.having ∙ sym (some_any (content_entries origin content).nsip)

-- the zones that have rules of a kind
pub having_is : (zones : PlainZones) (s : PlainSummaries) (n : ℕ) (zone : PlainZone) (kind : Kind) → KnowsAll zones s → 1 ≤ n → n ≤ ZONE_LIMIT → zone_at zones n ≡ Some zone
    → has_zone (zones_having s kind) n ≡ has_kind_in kind zone.origin zone.content
having_is zones s n zone kind knows some within e =
    having_by n zone.origin zone.content s (knows.each n zone some within e) kind ∙ sym (kind_in kind zone.origin zone.content)

-- ---- at the start

module _ {K A : Type 0} (order : K → K → Ordering) (valid : K → Type 0) where
  none_known : (n : ℕ) → Knows {K = K} {A = A} order valid n [] no_rules
  none_known n = record { having = no_zone n; exact = λ listed. absurd (true≢false (sym listed)) }

nothing_known : (n : ℕ) (origin : Name) → KnowsZone n (content_entries origin None) no_summaries
nothing_known n origin = record {
  client_ip = none_known _ _ n;
  qname = none_known _ _ n;
  response_ip = none_known _ _ n;
  nsdname = none_known _ _ n;
  nsip = none_known _ _ n;
}

unloaded_known : (n : ℕ) (origin : Option Name) (zone : PlainZone) → option_map unloaded origin ≡ Some zone → KnowsZone n (content_entries zone.origin zone.content) no_summaries
unloaded_known n None zone e = absurd cc
unloaded_known n (Some origin) zone e = subst (λ (z : PlainZone). KnowsZone n (content_entries z.origin z.content) no_summaries) (some_is (unloaded origin) zone e) (nothing_known n origin)

pub knows_none : (origins : List Name) → KnowsAll (map unloaded origins) no_summaries
knows_none origins = record {
  each = λ n zone some within e.
      unloaded_known n (slice_get origins (n - 1)) zone (sym (slice_get-map unloaded origins (n - 1)) ∙ sym (at_place (map unloaded origins) n some) ∙ e);
}

-- ---- by kinds

-- what is known of a kind is known of it in all summaries, and the other way round
module _ (zones : PlainZones) (s : PlainSummaries) where
  pub client_known : KnowsAll zones s → KnowsPrefixes kinds.ClientIp zones s.client_ip
  client_known knows = record { each = λ n zone some within e. (knows.each n zone some within e).client_ip }

  pub name_known : KnowsAll zones s → KnowsPatterns kinds.Qname zones s.qname
  name_known knows = record { each = λ n zone some within e. (knows.each n zone some within e).qname }

  pub response_known : KnowsAll zones s → KnowsPrefixes kinds.ResponseIp zones s.response_ip
  response_known knows = record { each = λ n zone some within e. (knows.each n zone some within e).response_ip }

  pub server_known : KnowsAll zones s → KnowsPatterns kinds.NsDname zones s.nsdname
  server_known knows = record { each = λ n zone some within e. (knows.each n zone some within e).nsdname }

  pub address_known : KnowsAll zones s → KnowsPrefixes kinds.NsIp zones s.nsip
  address_known knows = record { each = λ n zone some within e. (knows.each n zone some within e).nsip }

  pub all_known : KnowsPrefixes kinds.ClientIp zones s.client_ip → KnowsPatterns kinds.Qname zones s.qname → KnowsPrefixes kinds.ResponseIp zones s.response_ip
      → KnowsPatterns kinds.NsDname zones s.nsdname → KnowsPrefixes kinds.NsIp zones s.nsip → KnowsAll zones s
  all_known client name response server address = record {
    each = λ n zone some within e. record {
      client_ip = client.each n zone some within e;
      qname = name.each n zone some within e;
      response_ip = response.each n zone some within e;
      nsdname = server.each n zone some within e;
      nsip = address.each n zone some within e;
    };
  }

-- ---- a zone in place of another one

pub is_there : (next : NewZone) → length (zones_before next) ≤ ZONE_LIMIT → IsSome (zone_at (zones_before next) next.number) → IsThere next
is_there next limit there =
    let at = number_there (zones_before next) next.number there in
    record { some = at.0; within = at.1; limit = limit }

changes_by : (found : Option PlainZone) (old next : PlainZone) (changes : Changes) → found ≡ Some old → IfSome found (λ zone. AreChanges zone next changes) → AreChanges old next changes
changes_by found old next changes e h = subst (λ (o : Option PlainZone). IfSome o (λ zone. AreChanges zone next changes)) e h

pub changes_at : (next : NewZone) (changes : Changes) → IfSome (zone_at (zones_before next) next.number) (λ old. AreChanges old next.zone.now changes) → AreChangesAt next changes
changes_at next changes h = record { each = λ old e. changes_by (zone_at (zones_before next) next.number) old next.zone.now changes e h }
