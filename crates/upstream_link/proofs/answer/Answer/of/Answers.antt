use Rattle.upstream_link.proofs.Answers.{is_answer}
use Rattle.upstream_link.proofs.answer.Answer.of.Goals as goal

pub new-requires : goal.new-requires
new-requires c = rw (c.retain_class.ensures, c.first_soa-soa.ensures) (is_answer c.args.message c.requires)
