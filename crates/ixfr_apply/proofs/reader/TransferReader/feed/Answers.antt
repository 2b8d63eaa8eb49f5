use Rattle.std.proofs.Common.{◌≡◌, Some, sym, ap, ◌∙◌}
use Rattle.ixfr_apply.specs.Feeding.{Reader}
use Rattle.ixfr_apply.proofs.Feeding.{feeds, falls}
use Rattle.ixfr_apply.proofs.Own.{own_result}
use Rattle.ixfr_apply.proofs.reader.TransferReader.feed.Goals as goal

asked_is : (c : goal.After-advance) → c.args.self.now.asked ≡ c.self.inside.asked
asked_is c = ap (λ (r : Reader). r.asked) (sym c.self.view_is)

progress_is : (c : goal.After-advance) → c.args.self.now.progress ≡ Some c.in-Some.progress
progress_is c = ap (λ (r : Reader). r.progress) (sym c.self.view_is) ∙ sym c.take.ensures.value ∙ c.in-Some.is

pub returns-in-Some-clause-fed : goal.returns-in-Some-clause-fed
returns-in-Some-clause-fed c =
    feeds c.a_record_is_a_block_or_a_row.ensures c.args.self.now c.advance.new.self c.in-Some.progress c.self.inside.asked c.args.message.now c.advance.result (asked_is c) (progress_is c) c.advance.ensures.asked c.advance.ensures.meets

pub returns-in-Some-clause-own : goal.returns-in-Some-clause-own
returns-in-Some-clause-own c = λ _. own_result c.self.inside.asked c.in-Some.progress c.args.message.now c.advance.result c.advance.new.self.progress c.advance.ensures.meets

pub returns-in-Some-clause-falls : goal.returns-in-Some-clause-falls
returns-in-Some-clause-falls c =
    falls c.args.self.now c.advance.new.self c.in-Some.progress c.self.inside.asked c.args.message.now c.advance.result (asked_is c) (progress_is c) c.advance.ensures.asked c.advance.ensures.meets
