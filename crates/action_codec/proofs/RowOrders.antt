-- The two orders of a rule's rows: by type and data, and by owner.
use Rattle.std.proofs.Common.{◌≡◌, true, false, refl, sym, ap, ◌∙◌, true≢false}
use Rattle.std.specs.Cmp.{IsTotalOrder, on_total}
use Rattle.std.specs.Cmp.Lexicographic.{slice_cmp, on_texts}
use Rattle.std.specs.Ordering.{nat_cmp, is_lt, is_gt, ordering_reverse}
use Rattle.std.specs.declared.cmp.Ordering.{Ordering}
use Rattle.std.specs.declared.cmp.Ordering.TheVariants.{Less, Equal, Greater}
use Rattle.dns_name.specs.Order.{canonical_order}
use Rattle.dns_record.specs.Row.{PlainRow}
use Rattle.action_codec.specs.Local.{data_key}
use Rattle.dns_name.proofs.Orders.{same_bytes, canonical_total}

-- by type, then data
abbrev pub by_data : PlainRow → PlainRow → Ordering
by_data row other = slice_cmp nat_cmp (data_key row) (data_key other)

abbrev pub by_owner : PlainRow → PlainRow → Ordering
by_owner row other = canonical_order row.owner other.owner

pub by_data_total : IsTotalOrder by_data
by_data_total = on_texts data_key

pub by_owner_total : IsTotalOrder by_owner
by_owner_total = on_total (λ (row : PlainRow). row.owner) canonical_total

-- ---- what is at one place

pub same_data : (row other : PlainRow) → by_data row other ≡ Equal → data_key row ≡ data_key other
same_data row other h = same_bytes (data_key row) (data_key other) h

-- ---- what comes no later

no_later-reverse : (o : Ordering) → is_lt o ≡ false → is_gt (ordering_reverse o) ≡ false
no_later-reverse Less h = absurd (true≢false h)
no_later-reverse Equal h = refl
no_later-reverse Greater h = refl

pub no_later-less : (o : Ordering) → is_lt o ≡ true → is_gt o ≡ false
no_later-less Less h = refl
no_later-less Equal h = refl
no_later-less Greater h = absurd (true≢false (sym h))

pub no_later-back : (row other : PlainRow) → is_lt (by_owner row other) ≡ false → is_gt (by_owner other row) ≡ false
no_later-back row other h = ap is_gt (by_owner_total.antisymm other row) ∙ no_later-reverse (by_owner row other) h

neither : (o : Ordering) → is_gt o ≡ false → is_gt (ordering_reverse o) ≡ false → o ≡ Equal
neither Less h k = absurd (true≢false k)
neither Equal h k = refl
neither Greater h k = absurd (true≢false h)

pub both_no_later : (row other : PlainRow) → is_gt (by_owner row other) ≡ false → is_gt (by_owner other row) ≡ false → by_owner row other ≡ Equal
both_no_later row other h k = neither (by_owner row other) h (ap is_gt (sym (by_owner_total.antisymm other row)) ∙ k)
