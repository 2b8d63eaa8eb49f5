use Rattle.std.proofs.Common.{◌∙◌, sym}
use Rattle.rpz_words.proofs.PartLemmas.{part_last, part_next}
use Rattle.rpz_words.proofs.cutting.comma_parts.Goals as goal

pub loop-rest-preserved : goal.loop-rest-preserved
loop-rest-preserved c =
    part_next _ _ c.cut.result.0 c.cut.result.1 c.loop-rest.rest.now c.args.text.now (sym c.has_byte.ensures ∙ c.loop-rest-test.true) c.cut.ensures.before c.cut.ensures.behind c.in_ok-push.ensures.items c.loop-rest.invariant

pub returns : goal.returns
returns c = part_last _ _ c.loop-rest.rest c.args.text.now (sym c.has_byte.ensures ∙ c.loop-rest-test.false) c.in_ok-push-2.ensures.items c.loop-rest.invariant
