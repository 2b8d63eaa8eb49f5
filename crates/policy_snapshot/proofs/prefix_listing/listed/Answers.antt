use Rattle.std.proofs.Common.{ℕ, ◌+◌, ◌∙◌, Some, ap, sym, arith}
use Rattle.std.specs.Arc.{arc_value}
use Rattle.std.proofs.lemmas.List.{length-map}
use Rattle.policy_snapshot.specs.Listing.{zones_after}
use Rattle.policy_snapshot.proofs.NewZones.{zone_here}
use Rattle.policy_snapshot.proofs.PrefixRules.{listed_if, lists_all, lists_more, lists_none, lists_past}
use Rattle.policy_snapshot.proofs.prefix_listing.listed.Goals.{then-has+in_ok-entries, else-has}
use Rattle.policy_snapshot.proofs.prefix_listing.listed.Goals as goal

pub overflow_add-number : goal.overflow_add-number
overflow_add-number c = omega (arith, c.loop-zone.invariant.count, c.loop-zone-test.true, c.requires.there.limit, length-map c.args.next.now.zones.now arc_value)

pub or_new-requires-clause-zone : goal.or_new-requires-clause-zone
or_new-requires-clause-zone c =
    zone_here arc_value c.args.next.now.zones.now c.loop-zone.zone-index (c.loop-zone.number + 1) c.zone-item.result c.loop-zone-test.true c.zone-item.is (ap (λ (m : ℕ). m + 1) c.loop-zone.invariant.count)
    ∙ ap Some (sym c.deref-then-has.ensures)

pub loop-zone-init : goal.loop-zone-init
loop-zone-init c = lists_none c.args.kind c.requires.kind (zones_after c.args.next.now) c.new-entries.result.items c.new-entries.ensures.items

pub loop-zone-preserved : goal.loop-zone-preserved
loop-zone-preserved c =
    elim c.if-has.branch [
      | then-has+in_ok-entries w ↦
          lists_more c.args.kind c.requires.kind (zones_after c.args.next.now) c.loop-zone.number c.loop-zone.zone-index w.or_new.result.now c.loop-zone.entries.items w.deref.result.now w.in_ok-entries.entries.items c.if-has.entries.items
          c.loop-zone.invariant w.or_new.ensures w.deref.ensures.value (ap (λ v. v.items) w.entries-is) w.in_ok-entries.ensures.keys w.in_ok-entries.ensures.rules
      | else-has w ↦
          lists_past c.args.kind c.requires.kind c.args.next.now c.loop-zone.number c.loop-zone.zone-index c.args.having c.loop-zone.entries.items c.if-has.entries.items
          c.requires.there c.requires.having c.loop-zone-test.true c.loop-zone.invariant (ap (λ v. v.items) w.entries-is) (sym c.has.ensures ∙ w.if-has.false)
    ]

pub returns : goal.returns
returns c =
    listed_if c.args.kind c.requires.kind (zones_after c.args.next.now) c.args.having c.deref-2.result.now c.listed.result c.requires.having c.listed.ensures.having c.listed.ensures.at
    (lists_all c.args.kind c.requires.kind c.args.next.now c.loop-zone.number c.loop-zone.zone-index c.loop-zone.entries.items c.deref-2.result.now c.loop-zone.invariant c.loop-zone-test.false c.deref-2.ensures.value)
