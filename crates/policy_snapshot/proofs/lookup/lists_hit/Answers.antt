use Rattle.std.proofs.Common.{◌≡◌, ◌∙◌, ℕ, List, sym, ap, subst, option_map}
use Rattle.std.specs.Prelude.{All}
use Rattle.dns_name.specs.Labels.{lowered}
use Rattle.rpz_precedence.specs.Seen.{hit_seen}
use Rattle.upstream_link.specs.Known.{AreInOrder}
use Rattle.policy_snapshot.specs.Lookup.{better, best_over, server_hit}
use Rattle.policy_snapshot.proofs.ListLoops.{holds_at, kept, taken, left, none_taken}
use Rattle.policy_snapshot.proofs.lookup.lists_hit.Goals.{in-Some+then-goes_before, in-Some+else-goes_before, in_default}
use Rattle.policy_snapshot.proofs.lookup.lists_hit.Goals as goal

pub names_hit-requires : goal.names_hit-requires
names_hit-requires c =
    let order = holds_at (λ list. list.now) AreInOrder c.args.lists.now c.loop-list.list-index c.list-item.result c.loop-list-test.true c.list-item.is c.requires in
    subst (All (λ (server : List (List ℕ)). lowered server ≡ server)) (sym c.as_slice.ensures) order.lower

pub loop-list-preserved : goal.loop-list-preserved
loop-list-preserved c =
    let look = best_over (server_hit c.args.position c.args.number c.args.soa.now c.args.rules.now) in
    let best = option_map hit_seen c.loop-list.best in
    let found = c.names_hit.ensures ∙ ap look c.as_slice.ensures in
    kept (λ list. list.now) look c.args.lists.now c.loop-list.list-index c.list-item.result best (option_map hit_seen c.match-names_hit.best) c.loop-list-test.true c.list-item.is c.loop-list.invariant
    (elim c.match-names_hit.branch [
      | in-Some+then-goes_before w ↦ ap (option_map hit_seen) w.best-is ∙ taken best (hit_seen w.in-Some.hit) (sym w.goes_before.ensures ∙ w.if-goes_before.true) ∙ ap (better best) (ap (option_map hit_seen) (sym w.in-Some.is) ∙ found)
      | in-Some+else-goes_before w ↦ ap (option_map hit_seen) w.best-is ∙ left best (hit_seen w.in-Some.hit) (sym w.goes_before.ensures ∙ w.if-goes_before.false) ∙ ap (better best) (ap (option_map hit_seen) (sym w.in-Some.is) ∙ found)
      | in_default w ↦ ap (option_map hit_seen) w.best-is ∙ none_taken best ∙ ap (better best) (ap (option_map hit_seen) (sym w.in_default.is) ∙ found)
    ])
