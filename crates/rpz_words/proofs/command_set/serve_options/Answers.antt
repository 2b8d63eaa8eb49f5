use Rattle.std.proofs.Common.{◌∙◌, ap₂}
use Rattle.clap.specs.Words.{with_rule}
use Rattle.rpz_words.proofs.command_set.serve_options.Goals as goal

pub returns-clause-app : goal.returns-clause-app
returns-clause-app c =
    let askers = c.in_ok-with_askers.ensures.shape c.option_arg-askers.ensures.local ∙ ap₂ with_rule c.new.ensures.app c.option_arg-askers.ensures.rule in
    let cache = c.in_ok-with_cache.ensures.shape c.option_arg-cache.ensures.local ∙ ap₂ with_rule askers c.option_arg-cache.ensures.rule in
    let hold = c.in_ok-with_hold.ensures.shape c.option_arg-hold.ensures.local ∙ ap₂ with_rule cache c.option_arg-hold.ensures.rule in
    let clients = c.in_ok-with_clients.ensures.shape c.option_arg-clients.ensures.local ∙ ap₂ with_rule hold c.option_arg-clients.ensures.rule in
    let each = c.in_ok-with_each.ensures.shape c.option_arg-each.ensures.local ∙ ap₂ with_rule clients c.option_arg-each.ensures.rule in
    c.in_ok-with_allow.ensures.shape c.option_arg-allow.ensures.local ∙ ap₂ with_rule each c.option_arg-allow.ensures.rule
