use Rattle.reply_build.proofs.Followed.{kept_more, kept_all}
use Rattle.reply_build.proofs.place.write_kept.Goals as goal

pub loop-name-preserved : goal.loop-name-preserved
loop-name-preserved c = kept_more c.args.age c.args.records.now c.args.before.now c.loop-name.name-index c.name-item.result c.loop-name.writer _ _ c.loop-name-test.true (rw (← c.name-item.is) c.in_ok-write_alias_of.ensures) c.loop-name.invariant

pub returns : goal.returns
returns c = kept_all c.args.age c.args.records.now c.args.before.now c.loop-name.name-index c.loop-name.writer _ c.loop-name-test.false c.loop-name.invariant
