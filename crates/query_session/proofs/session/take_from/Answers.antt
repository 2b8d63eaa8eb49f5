use Rattle.std.proofs.Common.{ap, Some}
use Rattle.dns_message.specs.declared.question.Question as questions
use Rattle.upstream_link.specs.declared.fact.Fact as told
use Rattle.query_session.proofs.LastFact.{last_left}
use Rattle.query_session.proofs.session.take_from.Goals as goal

pub returns-in-Some-clause-taken : goal.returns-in-Some-clause-taken
returns-in-Some-clause-taken c = λ before after question fact is long.
    let both = last_left c.args.facts.now c.truncate.new.self c.pop.new.self before after (question, fact) (c.in-Some.question, c.in-Some._fact) c.args.count is long c.truncate.ensures c.in-Some.ensures.last in
    (both.0, ap (λ (e : questions.Question × told.Fact). Some e.0) both.1)
