use Rattle.dns_name.proofs.TailLemmas.{tails_push}
use Rattle.dns_name.proofs.name_reader.add.Goals as goal

pub returns : goal.returns
returns c = λ message octets h t. rw c.in_ok-push.ensures.items (tails_push message octets c.args.spans.now.items c.args.span h t)
