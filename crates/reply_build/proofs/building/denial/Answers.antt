use Rattle.std.proofs.Common.{ap}
use Rattle.reply_build.specs.Reply.{gives}
use Rattle.reply_build.specs.Seen.{place_seen}
use Rattle.reply_build.proofs.Pieces.{denied}
use Rattle.reply_build.proofs.building.denial.Goals as goal

pub returns : goal.returns
returns c query = ap gives (denied c.args.rcode (place_seen c.args.place.now))
