-- Entries in order, of which those that act are counted.
use Rattle.std.specs.Prelude.{◌≡◌, ℕ, ◌+◌, Bool, cond, List, [], ◌∷◌, Option, Some, None}
use Rattle.std.specs.List.{AllByRecursion, list_any}
use Rattle.std.specs.List.Sorted.{IsStrictlySortedBy}
use Rattle.std.specs.Map.{keys_of}
use Rattle.std.specs.declared.cmp.Ordering.{Ordering}
use Rattle.trie_keys.specs.declared.marked.Marked.{Marked}
use Rattle.dns_name.specs.Alike.{PlainPattern}
use Rattle.qname_index.specs.Best.{pattern_order}
use Rattle.trigger_codec.specs.Bases.{IsPattern}
use Rattle.trigger_codec.specs.declared.trigger.Kind.{Kind}
use Rattle.trigger_codec.specs.declared.trigger.Kind.TheVariants as kinds
use Rattle.zone_index.specs.Kept.{kept_acts}
use Rattle.zone_index.specs.Places.{RulesOf}
use Rattle.zone_index.specs.declared.kept.Kept.{Kept}

-- 1 for a value that acts
abbrev pub one_acting : Marked ℕ Kept → ℕ
one_acting value = cond (kept_acts value.mark) 1 0

-- 1 where there is one that acts
abbrev pub acting_in : Option (Marked ℕ Kept) → ℕ
acting_in None = 0
acting_in (Some value) = one_acting value

-- how many entries act
abbrev pub acting : {K : Type 0} → List (K × Marked ℕ Kept) → ℕ
acting [] = 0
acting (e ∷ es) = one_acting e.1 + acting es

-- some entry acts
abbrev pub some_kept : {K : Type 0} → List (K × Marked ℕ Kept) → Bool
some_kept entries = list_any (λ e. kept_acts e.1.mark) entries

-- some value of the kind acts
abbrev pub has_kept : RulesOf (Marked ℕ Kept) → Kind → Bool
has_kept rules kinds.ClientIp = some_kept rules.client_ip
has_kept rules kinds.Qname = some_kept rules.qname
has_kept rules kinds.ResponseIp = some_kept rules.response_ip
has_kept rules kinds.NsDname = some_kept rules.nsdname
has_kept rules kinds.NsIp = some_kept rules.nsip

-- the keys stand in order, and so many entries act
pub record IsCounted {K : Type 0} (order : K → K → Ordering) (entries : List (K × Marked ℕ Kept)) (count : ℕ) : Type 0 where
  pub sorted : IsStrictlySortedBy order (keys_of entries)
  pub counted : count ≡ acting entries

-- the same of patterns, whose bases are names in lower case
pub record ArePatterns (entries : List (PlainPattern × Marked ℕ Kept)) (count : ℕ) : Type 0 where
  pub counted : IsCounted pattern_order entries count
  pub lower : AllByRecursion IsPattern (keys_of entries)
