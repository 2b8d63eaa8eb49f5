use Rattle.std.proofs.Common.{◌∙◌, ap, Some, None}
use Rattle.upstream_link.specs.Question.{question_of}
use Rattle.upstream_link.proofs.Found.{got}
use Rattle.upstream_link.proofs.facts.Facts.get.Goals as goal

pub returns-in-Some : goal.returns-in-Some
returns-in-Some c = ap Some c.fact.ensures ∙ got c.self.inside.facts.items c.deref.result.now c.args.self.now c.self.view_is c.deref.ensures.value (question_of c.args.name.now c.args.qtype) (Some c.in-Some.known.now) c.in-Some.ensures

pub returns-in-None : goal.returns-in-None
returns-in-None c = got c.self.inside.facts.items c.deref.result.now c.args.self.now c.self.view_is c.deref.ensures.value (question_of c.args.name.now c.args.qtype) None c.in-None.ensures
