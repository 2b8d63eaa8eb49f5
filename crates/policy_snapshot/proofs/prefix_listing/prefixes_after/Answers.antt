use Rattle.std.proofs.Common.{ℕ, ◌==◌, cond, ◌∙◌, ap, subst, sym}
use Rattle.std.proofs.lemmas.Result.{IfOk-weaker}
use Rattle.summary_index.specs.Zones.{has_zone}
use Rattle.policy_snapshot.specs.Listing.{KnowsPrefixes, ZonesHave, zones_after}
use Rattle.policy_snapshot.proofs.PrefixRules.{prefixes_as_before, prefixes_having, prefixes_unlisted}
use Rattle.policy_snapshot.proofs.prefix_listing.prefixes_after.Goals.{After-zones_with-having}
use Rattle.policy_snapshot.proofs.prefix_listing.prefixes_after.Goals as goal

pub returns-then-not-has-2 : goal.returns-then-not-has-2
returns-then-not-has-2 c =
    IfOk-weaker c.share.result _ _
    (λ summary same. subst (KnowsPrefixes c.args.kind (zones_after c.args.next.now)) (sym same)
    (prefixes_as_before c.args.kind c.requires.kind c.args.next.now c.requires.there c.args.before.now c.requires.known
    (ap (λ (z : ℕ). has_zone z c.args.next.now.number) (sym c.having.ensures) ∙ sym c.has.ensures ∙ c.if-not-has-2.true) (sym c.has_kind-has.ensures ∙ c.if-not-has.true)))
    c.share.ensures

-- the zones that have rules then
have : (c : After-zones_with-having) → ZonesHave c.args.kind (zones_after c.args.next.now) c.zones_with-having.result
have c =
    prefixes_having c.args.kind c.requires.kind c.args.next.now c.requires.there c.args.before.now c.requires.known c.zones_with-having.result c.has_kind-has.result c.has_kind-has.ensures
    (λ n some within. c.zones_with-having.ensures n some within ∙ ap (λ (z : ℕ). cond (n == c.args.next.now.number) c.has_kind-has.result (has_zone z n)) c.having-2.ensures)

pub returns-then-not-are_several : goal.returns-then-not-are_several
returns-then-not-are_several c =
    prefixes_unlisted c.args.kind c.requires.kind (zones_after c.args.next.now) c.with_having.result
    (subst (ZonesHave c.args.kind (zones_after c.args.next.now)) (sym c.with_having.ensures.having) (have (goal.at.returns-then-not-are_several c).After-zones_with-having))
    (c.with_having.ensures.listed ∙ ap (λ s. s.is_listed) c.empty.ensures)

pub listed-requires-clause-having : goal.listed-requires-clause-having
listed-requires-clause-having c = have (goal.at.listed-requires-clause-having c).After-zones_with-having

pub relisted-requires-clause-having : goal.relisted-requires-clause-having
relisted-requires-clause-having c = have (goal.at.relisted-requires-clause-having c).After-zones_with-having

pub edited-requires-clause-having : goal.edited-requires-clause-having
edited-requires-clause-having c = have (goal.at.edited-requires-clause-having c).After-zones_with-having
