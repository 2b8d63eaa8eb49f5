-- Rows do the same under patterns that are at one place in the order of precedence.
use Rattle.std.proofs.Common.{◌≡◌, ℕ, Bool, true, false, List, [], ◌∷◌, Option, Some, None, refl, sym, ap, ◌∙◌, true≢false}
use Rattle.std.specs.Prelude.{codes, length, if◌then◌else◌}
use Rattle.std.specs.BTreeMap.{is_at}
use Rattle.std.specs.Cmp.{IsTotalOrder, then_total, back_total, on_total, bool_cmp_total, nat_cmp_total}
use Rattle.std.specs.Cmp.Lexicographic.{slice_cmp, bytes_decides, nat_list_cmp_total}
use Rattle.std.specs.Ordering.{is_eq, nat_cmp, bool_cmp, ordering_then}
use Rattle.std.specs.Str.{bytes_eq}
use Rattle.std.specs.declared.cmp.Ordering.{Ordering}
use Rattle.std.specs.declared.cmp.Ordering.TheVariants.{Less, Equal, Greater}
use Rattle.std.proofs.lemmas.Map.Text.{is_eq-slice_cmp}
use Rattle.dns_name.specs.Alike.{PlainPattern}
use Rattle.dns_name.specs.Labels.{name_octets}
use Rattle.qname_index.specs.Best.{pattern_order}
use Rattle.dns_record.specs.Row.{PlainRow}
use Rattle.action_codec.specs.Action.{action_for, rows_action, cname_action, is_cname, local_alone, is_own_name, is_reserved_name, own_name, points_to}
use Rattle.action_codec.specs.Local.{rule_rows}
use Rattle.action_codec.specs.declared.action.Action.{Action}
use Rattle.action_codec.specs.declared.action.Action.TheVariants.{NxDomain, NoData, PassThru, Drop, TcpOnly}

pub pattern_order_total : IsTotalOrder pattern_order
pattern_order_total =
    then_total (on_total (λ (p : PlainPattern). p.wild) bool_cmp_total)
    (then_total (back_total (on_total (λ (p : PlainPattern). length p.base) nat_cmp_total)) (on_total (λ (p : PlainPattern). name_octets p.base) nat_list_cmp_total))

-- ---- patterns at one place

both_tied : (a b : Ordering) → is_eq (ordering_then a b) ≡ true → (is_eq a ≡ true) × (is_eq b ≡ true)
both_tied Less b h = absurd (true≢false (sym h))
both_tied Equal b h = (refl, h)
both_tied Greater b h = absurd (true≢false (sym h))

same_wild : (a b : Bool) → is_eq (bool_cmp a b) ≡ true → a ≡ b
same_wild false false h = refl
same_wild false true h = absurd (true≢false (sym h))
same_wild true false h = absurd (true≢false (sym h))
same_wild true true h = refl

pub record AreTied (p q : PlainPattern) : Type 0 where
  pub wild : p.wild ≡ q.wild
  pub octets : name_octets p.base ≡ name_octets q.base

pub tied_patterns : (p q : PlainPattern) → is_at (pattern_order p) q ≡ true → AreTied p q
tied_patterns p q h =
    let first = both_tied (bool_cmp p.wild q.wild) (ordering_then (nat_cmp (length q.base) (length p.base)) (slice_cmp nat_cmp (name_octets p.base) (name_octets q.base))) h in
    let second = both_tied (nat_cmp (length q.base) (length p.base)) (slice_cmp nat_cmp (name_octets p.base) (name_octets q.base)) first.1 in
    record {
      wild = same_wild p.wild q.wild first.0;
      octets = (bytes_decides (name_octets p.base) (name_octets q.base)).0 (sym (is_eq-slice_cmp (name_octets p.base) (name_octets q.base)) ∙ second.1);
    }

own_octets : (wild : Bool) (base other : List (List ℕ)) → name_octets base ≡ name_octets other
    → name_octets (if wild then codes "*" ∷ base else base) ≡ name_octets (if wild then codes "*" ∷ other else other)
own_octets true base other e = ap (λ (octets : List ℕ). 1 ∷ 42 ∷ octets) e
own_octets false base other e = e

same_own : (p q : PlainPattern) → AreTied p q → name_octets (own_name p) ≡ name_octets (own_name q)
same_own p q ties = own_octets p.wild p.base q.base ties.octets ∙ ap (λ (wild : Bool). name_octets (if wild then codes "*" ∷ q.base else q.base)) ties.wild

-- ---- what rows do

module _ (own other : Option PlainPattern) (same : (rdata : List ℕ) → is_own_name own rdata ≡ is_own_name other rdata) where
  same_cname : (row : PlainRow) → cname_action own row ≡ cname_action other row
  unfolding cname_action
  same_cname row =
      ap
      (λ (is_own : Bool).
      if points_to row.rdata [] then Some NxDomain
      else (if points_to row.rdata (codes "*" ∷ []) then Some NoData
      else (if points_to row.rdata (codes "rpz-passthru" ∷ []) then Some PassThru
      else (if points_to row.rdata (codes "rpz-drop" ∷ []) then Some Drop
      else (if points_to row.rdata (codes "rpz-tcp-only" ∷ []) then Some TcpOnly
      else (if is_reserved_name row.rdata then None
      else (if is_own then Some PassThru
      else local_alone row)))))))
      (same row.rdata)

  same_rows : (rows : List PlainRow) → rows_action own rows ≡ rows_action other rows
  same_rows [] = refl
  same_rows (row ∷ []) = ap (λ (action : Option Action). if is_cname row then action else local_alone row) (same_cname row)
  same_rows (row ∷ next ∷ rows) = refl

-- patterns at one place write one name, so that a row that points to it does the same
pub same_action : (p q : PlainPattern) (rows : List PlainRow) → is_at (pattern_order p) q ≡ true → action_for (Some q) rows ≡ action_for (Some p) rows
same_action p q rows h = same_rows (Some q) (Some p) (λ rdata. ap (λ (octets : List ℕ). bytes_eq rdata octets) (sym (same_own p q (tied_patterns p q h)))) (rule_rows rows)
