use Rattle.policy_snapshot.proofs.PatternRules.{if_both, names_relisted}
use Rattle.policy_snapshot.proofs.name_listing.relisted.Goals as goal

pub returns : goal.returns
returns c =
    if_both c.listed.result _ _ _
    (λ after having at. names_relisted c.args.kind c.requires.kind c.args.next.now c.requires.there c.args.before.now c.requires.known c.requires.listed
    c.in_ok-others.others.items c.deref.result.now c.in_ok-entries.entries.items c.deref-2.result.now c.deref.ensures.value c.deref-2.ensures.value
    c.in_ok-others.ensures.zones c.in_ok-entries.ensures.rules after c.args.having c.requires.having having at)
    c.listed.ensures.having c.listed.ensures.at
