-- What a summary knows of the rules of one zone.
use Rattle.std.proofs.Common.{◌≡◌, ℕ, ◌-◌, true, List, is_some}
use Rattle.std.specs.BTreeMap.{is_at}
use Rattle.std.specs.List.{list_any}
use Rattle.std.specs.Map.{lookup}
use Rattle.std.specs.declared.cmp.Ordering.{Ordering}
use Rattle.summary_index.specs.Summary.{PlainSummary, zones_at}
use Rattle.summary_index.specs.Zones.{has_zone}

-- The summary knows the rules of the zone of this number: that there are some; and where the kind is listed, at which triggers.
pub record Knows {K A : Type 0} (order : K → K → Ordering) (valid : K → Type 0) (number : ℕ) (rules : List (K × A)) (s : PlainSummary K) : Type 0 where
  pub having : has_zone s.having number ≡ list_any (λ _. true) rules
  pub exact : s.is_listed ≡ true → (key : K) → valid key → has_zone (zones_at order key s.triggers) number ≡ is_some (lookup (is_at (order key)) rules)
