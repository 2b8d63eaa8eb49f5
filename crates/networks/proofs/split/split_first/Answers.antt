use Rattle.networks.proofs.CutLemmas.{uncut, cut}
use Rattle.networks.proofs.split.split_first.Goals as goal

pub returns-in-Some : goal.returns-in-Some
returns-in-Some c = cut c.args.byte c.args.text.now c.in-Some.at c.in-Some.ensures.value c.in-Some.ensures.bound

pub returns-in-None : goal.returns-in-None
returns-in-None c = uncut c.args.byte c.args.text.now c.in-None.ensures.value
