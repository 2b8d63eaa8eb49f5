use Rattle.std.proofs.Common.{◌∙◌, ap, sym, subst}
use Rattle.std.specs.List.{AllByRecursion}
use Rattle.std.proofs.lemmas.Result.{IfOk-weaker}
use Rattle.dns_name.specs.Alike.{PlainPattern}
use Rattle.summary_index.specs.Summary.{PlainSummary}
use Rattle.summary_index.specs.Zones.{has_zone}
use Rattle.trigger_codec.specs.Bases.{IsTrigger}
use Rattle.zone_index.specs.Changes.{AreChanges}
use Rattle.policy_snapshot.specs.Listing.{KnowsPatterns, ZonesHave, zones_after, zones_before}
use Rattle.policy_snapshot.proofs.NewZones.{some_there}
use Rattle.policy_snapshot.proofs.PatternRules.{names_as_before, names_having, names_unlisted}
use Rattle.policy_snapshot.proofs.name_listing.names_after.Goals as goal

pub returns-then-not-has-2 : goal.returns-then-not-has-2
returns-then-not-has-2 c =
    IfOk-weaker c.share.result _ _
    (λ summary same. subst (KnowsPatterns c.args.kind (zones_after c.args.next.now)) (sym same)
    (names_as_before c.args.kind c.requires.kind c.args.next.now c.requires.there c.args.before.now c.requires.known
    (ap (λ zones. has_zone zones c.args.next.now.number) (sym c.having.ensures) ∙ sym c.has.ensures ∙ c.if-not-has-2.true) (sym c.has_kind-has.ensures ∙ c.if-not-has.true)))
    c.share.ensures

pub returns-then-not-are_several : goal.returns-then-not-are_several
returns-then-not-are_several c =
    let have = names_having c.args.kind c.requires.kind c.args.next.now c.requires.there c.args.before.now c.requires.known c.having-2.result c.zones_with-having.result c.has_kind-has.result
    c.having-2.ensures c.has_kind-has.ensures c.zones_with-having.ensures in
    names_unlisted c.args.kind c.requires.kind (zones_after c.args.next.now) c.with_having.result
    (subst (ZonesHave c.args.kind (zones_after c.args.next.now)) (sym c.with_having.ensures.having) have)
    (c.with_having.ensures.listed ∙ ap (λ (s : PlainSummary PlainPattern). s.is_listed) c.empty.ensures)

pub listed-requires-clause-having : goal.listed-requires-clause-having
listed-requires-clause-having c =
    names_having c.args.kind c.requires.kind c.args.next.now c.requires.there c.args.before.now c.requires.known c.having-2.result c.zones_with-having.result c.has_kind-has.result
    c.having-2.ensures c.has_kind-has.ensures c.zones_with-having.ensures

pub relisted-requires-clause-having : goal.relisted-requires-clause-having
relisted-requires-clause-having c =
    names_having c.args.kind c.requires.kind c.args.next.now c.requires.there c.args.before.now c.requires.known c.having-2.result c.zones_with-having.result c.has_kind-has.result
    c.having-2.ensures c.has_kind-has.ensures c.zones_with-having.ensures

pub edited-requires-clause-having : goal.edited-requires-clause-having
edited-requires-clause-having c =
    names_having c.args.kind c.requires.kind c.args.next.now c.requires.there c.args.before.now c.requires.known c.having-2.result c.zones_with-having.result c.has_kind-has.result
    c.having-2.ensures c.has_kind-has.ensures c.zones_with-having.ensures

pub edited-requires-clause-triggers : goal.edited-requires-clause-triggers
edited-requires-clause-triggers c =
    let old = some_there (zones_before c.args.next.now) c.args.next.now.number c.requires.there.some c.requires.there.within in
    let at = subst (AreChanges old.0 c.args.next.now.zone.now) c.in-Triggers.is (c.requires.changes.each old.0 old.1) in
    subst (AllByRecursion IsTrigger) (sym c.deref.ensures.value) at.0
