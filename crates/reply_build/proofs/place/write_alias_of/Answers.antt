use Rattle.std.proofs.Common.{sym, ◌∙◌}
use Rattle.reply_build.proofs.Followed.{no_alias, some_alias}
use Rattle.reply_build.proofs.place.write_alias_of.Goals as goal

pub returns-in-None : goal.returns-in-None
returns-in-None c = no_alias c.args.age _ c.args.writer.now (sym c.alias_of.ensures ∙ c.in-None.is)

pub returns-in-Some : goal.returns-in-Some
returns-in-Some c = some_alias _ c.args.age _ c.in-Some.alias c.args.writer.now _ (sym c.alias_of.ensures ∙ c.in-Some.is) c.write_aged.ensures
