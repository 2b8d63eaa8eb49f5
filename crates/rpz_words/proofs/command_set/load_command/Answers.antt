use Rattle.std.proofs.Common.{◌∙◌, ap₂}
use Rattle.clap.specs.Words.{with_rule}
use Rattle.rpz_words.proofs.command_set.load_command.Goals as goal

pub returns-clause-app : goal.returns-clause-app
returns-clause-app c =
    let seed = c.in_ok-with_seed.ensures.shape c.value_arg-seed.ensures.local ∙ ap₂ with_rule c.new.ensures.app c.value_arg-seed.ensures.rule in
    let rules = c.in_ok-with_rules.ensures.shape c.value_arg-rules.ensures.local ∙ ap₂ with_rule seed c.value_arg-rules.ensures.rule in
    let queries = c.in_ok-with_queries.ensures.shape c.value_arg-queries.ensures.local ∙ ap₂ with_rule rules c.value_arg-queries.ensures.rule in
    c.in_ok-with_workers.ensures.shape c.value_arg-workers.ensures.local ∙ ap₂ with_rule queries c.value_arg-workers.ensures.rule
