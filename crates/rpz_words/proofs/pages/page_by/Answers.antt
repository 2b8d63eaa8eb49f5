use Rattle.std.proofs.Common.{sym, ◌∙◌}
use Rattle.rpz_words.proofs.Shown.{by_command_page, by_help_page, by_no_page}
use Rattle.rpz_words.proofs.pages.page_by.Goals as goal

pub returns-then-has_help : goal.returns-then-has_help
returns-then-has_help c =
    by_command_page c.args.first.now c.args.rest.now c.has_help.result c.command_page.result (sym c.is_help.ensures ∙ c.if-is_help.false) (sym c.is_version.ensures ∙ c.if-is_version.false) c.has_help.ensures c.if-has_help.true c.command_page.ensures

pub returns-then-eq : goal.returns-then-eq
returns-then-eq c =
    by_help_page c.args.first.now c.args.rest.now c.has_help.result c.help_page.result (sym c.is_help.ensures ∙ c.if-is_help.false) (sym c.is_version.ensures ∙ c.if-is_version.false) c.has_help.ensures c.if-has_help.false (sym c.eq.ensures ∙ c.if-eq.true) c.help_page.ensures

pub returns-else-eq : goal.returns-else-eq
returns-else-eq c =
    by_no_page c.args.first.now c.args.rest.now c.has_help.result (sym c.is_help.ensures ∙ c.if-is_help.false) (sym c.is_version.ensures ∙ c.if-is_version.false) c.has_help.ensures c.if-has_help.false (sym c.eq.ensures ∙ c.if-eq.false)
