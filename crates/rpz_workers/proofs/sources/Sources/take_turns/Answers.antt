use Rattle.std.proofs.Common.{◌+◌, ◌∙◌, refl, ap, arith, length}
use Rattle.rpz_workers.proofs.Stages.{comes_to, leads_nowhere, leads_on, says_last, turn_adds_one}
use Rattle.rpz_workers.specs.Turns.{inquiry}
use Rattle.rpz_workers.proofs.sources.Sources.take_turns.Goals as goal

pub loop-count-init : goal.loop-count-init
loop-count-init g c =
    record {
      leads = leads_nowhere _ _ _ _ _ _ _ _ c.requires.none (ap (λ facts. inquiry facts (g.A.Keeps.entries c.args.self.now.cache) (g.B.Asks.ids c.args.self.now.asks) (g.B.Asks.faults c.args.self.now.asks)) c.requires.facts);
      facts = ap length c.requires.facts;
      limit = refl;
      count = omega arith;
      policy = refl;
      incoming = refl;
    }

pub loop-count-preserved : goal.loop-count-preserved
loop-count-preserved g c =
    let was = c.loop-count.invariant in
    let turned = c.in_ok-answered.ensures.takes in
    record {
      leads = leads_on _ _ _ _ _ _ _ _ _ _ _ _ _ was.policy was.incoming c.in_default.is was.leads turned;
      facts = turn_adds_one _ _ _ _ _ _ _ _ _ _ c.in_default.is turned ∙ ap (λ n. n + 1) was.facts;
      limit = c.take_turn.ensures.limit ∙ was.limit;
      count = omega arith;
      policy = c.take_turn.ensures.policy ∙ was.policy;
      incoming = c.take_turn.ensures.incoming ∙ was.incoming;
    }

pub returns-in-Some-clause-comes_to : goal.returns-in-Some-clause-comes_to
returns-in-Some-clause-comes_to g c =
    let was = c.loop-count.invariant in
    comes_to _ _ _ _ _ _ _ _ _ _ _ _ _ _ was.policy was.incoming c.in-Some.is was.leads c.in_ok-answered.ensures.takes

pub returns-clause-comes_to : goal.returns-clause-comes_to
returns-clause-comes_to g c =
    let was = c.loop-count.invariant in says_last _ _ _ _ _ _ _ _ _ _ _ was.policy was.incoming was.leads c.in_ok-last_turn.ensures.says
