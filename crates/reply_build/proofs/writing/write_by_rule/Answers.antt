use Rattle.std.proofs.Common.{[], ◌∷◌, ◌+◌, option_copied, refl, ap, ◌∙◌}
use Rattle.dns_record.specs.Record.{PlainRecord}
use Rattle.dns_message.specs.Progress.{writing_after}
use Rattle.reply_build.specs.Parts.{asked_of, rule_sections}
use Rattle.reply_build.specs.Seen.{place_seen}
use Rattle.reply_build.proofs.Followed.{count_aged}
use Rattle.reply_build.proofs.Pieces.{rule_written}
use Rattle.reply_build.proofs.writing.write_by_rule.Goals as goal

pub returns-clause-reply : goal.returns-clause-reply
returns-clause-reply c =
    let query = c.args.frame.query.now in
    let hit = c.args.place.now in
    let rows = asked_of hit.name.now query.question.qtype (option_copied c.args.rows) in
    c.finish.ensures.reply c.args.frame.limit (rule_sections c.args.rcode (place_seen hit) rows [])
    (rule_written c.args.frame.limit query c.args.rcode (place_seen hit) rows c.reply_header-header.result (c.count_kept.result + c.count_asked.result) c.count_kept.result c.count_asked.result c.in_ok-writer.writer c.write_kept.new.writer c.write_asked.new.writer
    c.write.new.self c.reply_header-header.ensures refl (c.count_kept.ensures.count ∙ count_aged hit.age hit.records.now hit.before.now) (c.count_asked.ensures.count hit.name.now) c.in_ok-writer.ensures c.in_ok-write_kept.ensures c.in_ok-write_asked.ensures
    (c.in_ok-write.ensures ∙ ap (λ (r : PlainRecord). writing_after c.write_asked.new.writer (r ∷ [])) c.record_ref.ensures)) c.reply_header-header.ensures
