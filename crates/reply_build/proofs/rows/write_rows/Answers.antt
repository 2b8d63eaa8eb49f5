use Rattle.std.proofs.Common.{ap, sym, arith, ◌∙◌, ◌∷◌, []}
use Rattle.std.proofs.lemmas.Option.{get_or_from_slice_get}
use Rattle.dns_message.specs.Progress.{writing_after}
use Rattle.action_codec.specs.Seen.{part_seen}
use Rattle.reply_build.specs.Parts.{asked_records}
use Rattle.reply_build.proofs.Pieces.{asked_more, asked_all}
use Rattle.reply_build.proofs.rows.write_rows.Goals as goal

pub loop-place-preserved : goal.loop-place-preserved
loop-place-preserved c =
    let row = part_seen c.at.result in
    asked_more c.args.owner.now c.args.qtype c.args.rows.now c.loop-place.place row c.loop-place.writer _ _ (omega (arith, c.loop-place-test.true, c.len-place-end.ensures.len))
    (c.in_ok-write_if_asked.ensures ∙ ap (λ r. writing_after c.loop-place.writer (asked_records c.args.owner.now c.args.qtype (r ∷ []))) (sym (get_or_from_slice_get c.args.rows.now c.loop-place.place row row c.at.ensures.row)))
    c.loop-place.invariant

pub returns : goal.returns
returns c = asked_all c.args.owner.now c.args.qtype c.args.rows.now c.loop-place.place c.loop-place.writer _ (omega (arith, c.loop-place-test.false, c.len-place-end.ensures.len)) c.loop-place.invariant
