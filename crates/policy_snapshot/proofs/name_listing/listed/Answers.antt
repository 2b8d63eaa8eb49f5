use Rattle.std.proofs.Common.{◌≡◌, ◌+◌, ◌-◌, ◌∙◌, refl, ap, sym, subst, arith, List, map, Vec}
use Rattle.std.specs.Prelude.{Some}
use Rattle.std.specs.Arc.{arc_value}
use Rattle.std.proofs.lemmas.List.{length-map, length-set}
use Rattle.octet_trie.specs.Trie.{found_entry}
use Rattle.octet_trie.specs.declared.trie.OctetFound.{OctetFound}
use Rattle.qname_index.specs.Trie.{IsNameTrie}
use Rattle.zone_rows.specs.declared.zone.PlainZone.{PlainZone}
use Rattle.policy_snapshot.specs.Listing.{zones_after, zones_before}
use Rattle.policy_snapshot.proofs.NewZones.{zone_here}
use Rattle.policy_snapshot.proofs.PatternRules.{empty_trie, if_both, names_all, names_more, names_none, names_past}
use Rattle.policy_snapshot.proofs.name_listing.listed.Goals.{then-has+in_ok-entries, else-has}
use Rattle.policy_snapshot.proofs.name_listing.listed.Goals as goal

items_of : {T Z : Type 0} {a b : Vec T Z} → a ≡ b → a.items ≡ b.items
items_of e = ap (λ v. v.items) e

trie_is : {N M : Type 0} (last entries : List (OctetFound N M)) → last ≡ entries → IsNameTrie (map found_entry entries) → IsNameTrie (map found_entry last)
trie_is last entries e is = subst (λ es. IsNameTrie (map found_entry es)) (sym e) is

pub loop-zone-init : goal.loop-zone-init
loop-zone-init c = record {
  count = refl;
  keys = empty_trie c.new-entries.result.items c.new-entries.ensures.items;
  listed = names_none c.args.kind c.requires.kind (zones_after c.args.next.now) c.new-entries.result.items c.new-entries.ensures.items;
}

pub or_new-requires-clause-zone : goal.or_new-requires-clause-zone
or_new-requires-clause-zone c =
    zone_here arc_value c.args.next.now.zones.now c.loop-zone.zone-index (c.loop-zone.number + 1) c.zone-item.result c.loop-zone-test.true c.zone-item.is (ap (λ n. n + 1) c.loop-zone.invariant.count)
    ∙ ap (λ (zone : PlainZone). Some zone) (sym c.deref-then-has.ensures)

pub loop-zone-preserved : goal.loop-zone-preserved
loop-zone-preserved c =
    let before = zones_before c.args.next.now in
    let set = length-set before (c.args.next.now.number - 1) c.args.next.now.zone.now in
    let mapped = length-map c.args.next.now.zones.now arc_value in
    elim c.if-has.branch [
      | then-has+in_ok-entries w ↦ record {
        count = ap (λ n. n + 1) c.loop-zone.invariant.count;
        keys = trie_is c.if-has.entries.items w.in_ok-entries.entries.items (items_of w.entries-is) w.in_ok-entries.ensures.keys;
        listed = names_more c.args.kind c.requires.kind (zones_after c.args.next.now) c.loop-zone.zone-index c.loop-zone.number w.or_new.result.now
            c.loop-zone.entries.items w.deref.result.now w.in_ok-entries.entries.items c.if-has.entries.items w.deref.ensures.value (items_of w.entries-is) c.loop-zone.invariant.count w.or_new.ensures
            c.loop-zone.invariant.listed w.in_ok-entries.ensures.rules;
      }
      | else-has w ↦ record {
        count = ap (λ n. n + 1) c.loop-zone.invariant.count;
        keys = trie_is c.if-has.entries.items c.loop-zone.entries.items (items_of w.entries-is) c.loop-zone.invariant.keys;
        listed = names_past c.args.kind c.requires.kind (zones_after c.args.next.now) c.args.having c.loop-zone.zone-index c.loop-zone.number c.loop-zone.entries.items c.if-has.entries.items
            (items_of w.entries-is) c.loop-zone.invariant.count (omega (arith, set, mapped, c.loop-zone-test.true)) (omega (arith, set, c.requires.there.limit)) c.requires.having
            (sym c.has.ensures ∙ w.if-has.false) c.loop-zone.invariant.listed;
      }
    ]

pub returns : goal.returns
returns c =
    let before = zones_before c.args.next.now in
    let set = length-set before (c.args.next.now.number - 1) c.args.next.now.zone.now in
    let mapped = length-map c.args.next.now.zones.now arc_value in
    if_both c.listed.result _ _ _
    (λ after having at. names_all c.args.kind c.requires.kind (zones_after c.args.next.now) c.loop-zone.zone-index c.loop-zone.entries.items c.deref-2.result.now c.deref-2.ensures.value
    (omega (arith, set, mapped, c.loop-zone-test.false)) c.loop-zone.invariant.listed after c.args.having c.requires.having having at)
    c.listed.ensures.having c.listed.ensures.at
