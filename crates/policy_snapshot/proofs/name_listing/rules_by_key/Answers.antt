use Rattle.std.proofs.Common.{◌∙◌, sym}
use Rattle.std.proofs.lemmas.Result.{IfOk-weaker}
use Rattle.policy_snapshot.proofs.PatternRules.{empty_trie, none_by_key, some_by_key}
use Rattle.policy_snapshot.proofs.name_listing.rules_by_key.Goals as goal

pub returns-in-None-clause-keys : goal.returns-in-None-clause-keys
returns-in-None-clause-keys c = empty_trie c.new.result.items c.new.ensures.items

pub returns-in-None-clause-rules : goal.returns-in-None-clause-rules
returns-in-None-clause-rules c =
    λ p is n some within. none_by_key c.args.kind c.args.zone.now c.new.result.items c.args.number c.new.ensures.items (sym c.in-None.is ∙ c.index.ensures.index) p n

pub returns-in-Some-clause-rules : goal.returns-in-Some-clause-rules
returns-in-Some-clause-rules c =
    IfOk-weaker c.patterns_by_key.result _ _
    (λ entries stand p is n some within.
    some_by_key c.args.kind c.args.zone.now c.in-Some.index c.rules.result.now c.args.number c.none.result c.with.result (sym c.in-Some.is ∙ c.index.ensures.index) c.rules.ensures c.none.ensures.none c.with.ensures entries.items stand p is n some)
    c.patterns_by_key.ensures.rules
