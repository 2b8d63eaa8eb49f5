use Rattle.std.proofs.Common.{◌≡◌, ◌≤◌, cond, ap, arith, ◌∙◌}
use Rattle.std.proofs.lemmas.Option.{get_or_from_slice_get}
use Rattle.action_codec.specs.Seen.{part_seen}
use Rattle.reply_build.specs.Reply.{is_asked}
use Rattle.reply_build.proofs.Pieces.{byte_of, counted, least}
use Rattle.reply_build.proofs.rows.count_rows.Goals as goal

pub loop-place-preserved : goal.loop-place-preserved
loop-place-preserved c =
    let row = part_seen c.at.result in
    let one : c.from-count.result ≡ cond (is_asked c.args.qtype row) 1 0 = c.from-count.ensures ∙ byte_of c.is_asked.result ∙ ap (λ b. cond b 1 0) c.is_asked.ensures in
    let few : c.from-count.result ≤ 1 = least (is_asked c.args.qtype row) c.from-count.result one in (
      counted (is_asked c.args.qtype) c.args.rows.now c.loop-place.place c.loop-place.count c.from-count.result _ row (omega (arith, c.loop-place-test.true, c.len-place-end.ensures.len))
          (get_or_from_slice_get c.args.rows.now c.loop-place.place row row c.at.ensures.row) one c.loop-place.invariant.0,
      omega (arith, c.loop-place.invariant.1, few),
    )
