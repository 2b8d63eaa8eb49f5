use Rattle.std.proofs.Common.{◌≡◌, ℕ, false, [], ◌∷◌, ◌+◌, option_copied, refl, ap, ◌∙◌}
use Rattle.dns_record.specs.Record.{PlainRecord}
use Rattle.dns_message.specs.Progress.{writing_after}
use Rattle.reply_build.specs.Parts.{alias_reply, answers_of, authority_of, rcode_of}
use Rattle.reply_build.specs.Reply.{alias_record, reply_header}
use Rattle.reply_build.specs.Seen.{place_seen}
use Rattle.reply_build.proofs.Followed.{count_aged}
use Rattle.reply_build.proofs.Pieces.{alias_written}
use Rattle.reply_build.proofs.writing.write_by_alias.Goals as goal

pub returns-clause-reply : goal.returns-clause-reply
returns-clause-reply c =
    let query = c.args.frame.query.now in
    let hit = c.args.place.now in
    let answer = option_copied c.args.answer in
    let header : c.reply_header-header.result ≡ reply_header false (rcode_of answer) query = c.reply_header-header.ensures ∙ ap (λ (n : ℕ). reply_header false n query) c.rcode_of.ensures in
    c.finish.ensures.reply c.args.frame.limit (alias_reply (place_seen hit) c.args.ttl c.args.target.now answer)
    (alias_written c.args.frame.limit query (place_seen hit) (alias_record hit.name.now c.args.ttl c.args.target.now) (rcode_of answer) (answers_of answer) (authority_of answer) c.reply_header-header.result (c.count_kept.result + 1 + c.answer_count.result)
    c.count_kept.result c.answer_count.result c.authority_count.result c.in_ok-writer.writer c.write_kept.new.writer c.write.new.self c.write_answer_of.new.writer c.write-2.new.self header refl
    (c.count_kept.ensures.count ∙ count_aged hit.age hit.records.now hit.before.now) c.answer_count.ensures.count c.authority_count.ensures c.in_ok-writer.ensures c.in_ok-write_kept.ensures
    (c.in_ok-write.ensures ∙ ap (λ (r : PlainRecord). writing_after c.write_kept.new.writer (r ∷ [])) c.alias_ref.ensures) c.in_ok-write_answer_of.ensures
    (c.in_ok-write-2.ensures ∙ ap (λ (r : PlainRecord). writing_after c.write_answer_of.new.writer (r ∷ [])) c.record_ref.ensures)) header
