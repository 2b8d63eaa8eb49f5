use Rattle.std.proofs.Common.{◌≡◌, ℕ, false, length, ap, ◌∙◌}
use Rattle.reply_build.specs.Reply.{answer_sections, reply_header}
use Rattle.reply_build.proofs.Pieces.{passed_written}
use Rattle.reply_build.proofs.writing.write_passed.Goals as goal

pub returns-clause-reply : goal.returns-clause-reply
returns-clause-reply c =
    let query = c.args.frame.query.now in
    let answer = c.args.answer.now in
    let header : c.reply_header-header.result ≡ reply_header false answer.rcode query = c.reply_header-header.ensures ∙ ap (λ (n : ℕ). reply_header false n query) c.rcode.ensures in
    c.finish.ensures.reply c.args.frame.limit (answer_sections answer)
    (passed_written c.args.frame.limit query answer c.reply_header-header.result c.len.result c.soa_count-soas.result c.in_ok-writer.writer c.write_answer.new.writer header (c.len.ensures ∙ ap length c.answers.ensures) c.soa_count-soas.ensures
    c.in_ok-writer.ensures c.in_ok-write_answer.ensures) header
