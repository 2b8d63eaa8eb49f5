use Rattle.std.proofs.Common.{◌∙◌, ap₂}
use Rattle.clap.specs.Words.{with_rule}
use Rattle.rpz_words.proofs.command_set.serve_command.Goals as goal

pub returns-clause-app : goal.returns-clause-app
returns-clause-app c =
    let listen = c.in_ok-with_listen.ensures.shape c.value_arg-listen.ensures.local ∙ ap₂ with_rule c.in_ok-options.ensures.app c.value_arg-listen.ensures.rule in
    let upstream = c.in_ok-with_upstream.ensures.shape c.value_arg-upstream.ensures.local ∙ ap₂ with_rule listen c.value_arg-upstream.ensures.rule in
    let turns = c.in_ok-with_turns.ensures.shape c.value_arg-turns.ensures.local ∙ ap₂ with_rule upstream c.value_arg-turns.ensures.rule in
    let workers = c.in_ok-with_workers.ensures.shape c.value_arg-workers.ensures.local ∙ ap₂ with_rule turns c.value_arg-workers.ensures.rule in
    c.in_ok-with_zones.ensures.shape c.list_arg-zones.ensures.local ∙ ap₂ with_rule workers c.list_arg-zones.ensures.rule
