use Rattle.reply_build.specs.Parts.{bare_sections}
use Rattle.reply_build.proofs.Pieces.{bare_written}
use Rattle.reply_build.proofs.writing.write_bare.Goals as goal

pub returns-clause-reply : goal.returns-clause-reply
returns-clause-reply c =
    let query = c.args.frame.query.now in
    c.finish.ensures.reply c.args.frame.limit (bare_sections c.args.tc c.args.rcode) (bare_written c.args.frame.limit query c.args.tc c.args.rcode c.reply_header-header.result c.in_ok-writer.writer c.reply_header-header.ensures c.in_ok-writer.ensures) c.reply_header-header.ensures
