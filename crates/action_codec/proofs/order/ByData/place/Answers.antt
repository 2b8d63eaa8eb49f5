use Rattle.std.proofs.Common.{ℕ, List, map, sym, ap, ◌∙◌, subst, nat_cmp}
use Rattle.std.specs.Map.{lookup}
use Rattle.std.specs.BTreeMap.{is_at}
use Rattle.std.specs.Option.{option_map}
use Rattle.std.specs.Cmp.Lexicographic.{slice_cmp}
use Rattle.std.specs.List.{AllByRecursion}
use Rattle.dns_record.specs.Row.{PlainRow}
use Rattle.action_codec.specs.Local.{IsKeyed, row_to_keep, insert_row}
use Rattle.action_codec.proofs.Placing.{HasPlaced, has_placed, Kept}
use Rattle.action_codec.proofs.order.ByData.place.Goals.{in-Some, in-None}
use Rattle.action_codec.proofs.order.ByData.place.Goals as goal

kept : (c : goal.In_ok-insert) → Kept (λ k. k.items) (λ r. r.now) c.in_ok-key.key c.args.row c.match-get.kept c.self.inside.rows.entries
kept c =
    let by_octets : List ℕ → PlainRow = λ bs. row_to_keep c.args.row.now (option_map (λ r. r.now) (lookup (is_at (λ k. slice_cmp nat_cmp bs k.items)) c.self.inside.rows.entries)) in
    elim c.match-get.branch [
      | in-Some w ↦ ap (λ r. r.now) w.kept-is ∙ w.first_of-kept.ensures ∙ ap (λ f. row_to_keep c.args.row.now (option_map (λ r. r.now) f)) w.in-Some.ensures.value ∙ ap by_octets c.as_slice.ensures.value
      | in-None w ↦ ap (λ r. r.now) w.kept-is ∙ ap (λ f. row_to_keep c.args.row.now (option_map (λ r. r.now) f)) w.in-None.ensures.value ∙ ap by_octets c.as_slice.ensures.value
    ]

put : (c : goal.In_ok-insert) → HasPlaced (λ k. k.items) (λ r. r.now) c.in_ok-key.key c.args.row c.match-get.kept c.self.inside.rows.entries
put c = has_placed (λ k. k.items) (λ r. r.now) c.in_ok-key.key c.args.row c.match-get.kept c.self.inside.rows.entries c.in_ok-key.ensures c.self.invariant.0 c.self.invariant.1 (kept c)

-- src/order.rt:47:5
pub invariant_of-self-2 : goal.invariant_of-self-2
invariant_of-self-2 c = (subst (AllByRecursion (λ e. IsKeyed e.0.items e.1.now)) (sym c.in_ok-insert.ensures.entries) (put c).keyed, c.in_ok-insert.ensures.ordered)

-- src/order.rt:47:5
pub returns : goal.returns
returns c = ap (map (λ e. e.1.now)) c.in_ok-insert.ensures.entries ∙ (put c).rows ∙ ap (insert_row c.args.row.now) c.self.view_is
