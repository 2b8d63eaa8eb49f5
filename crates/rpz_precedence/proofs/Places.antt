-- Ranks at one position and in one zone.
use Rattle.std.proofs.Common.{◌≡◌, ℕ, ap, ◌∙◌}
use Rattle.std.specs.Cmp.{nat_cmp_total, tied_itself}
use Rattle.std.specs.Ordering.{is_lt, nat_cmp, ordering_then}
use Rattle.std.specs.declared.cmp.Ordering.{Ordering}
use Rattle.trigger_codec.specs.declared.trigger.Trigger.{Trigger}
use Rattle.rpz_precedence.specs.Rank.{precedes, rank_at, trigger_order}

-- the triggers decide
pub at_one_place : (position zone : ℕ) (t u : Trigger) → precedes (rank_at position zone t) (rank_at position zone u) ≡ is_lt (trigger_order t u)
at_one_place position zone t u =
    ap (λ (o : Ordering). is_lt (ordering_then o (ordering_then (nat_cmp zone zone) (trigger_order t u)))) (tied_itself nat_cmp_total position)
    ∙ ap (λ (o : Ordering). is_lt (ordering_then o (trigger_order t u))) (tied_itself nat_cmp_total zone)
