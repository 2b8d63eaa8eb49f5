use Rattle.std.proofs.Common.{get_or}
use Rattle.zone_rows.specs.Marks.{mark_of}
use Rattle.zone_rows.proofs.DraftSteps.{named_same}
use Rattle.zone_rows.proofs.draft.Draft.new.Goals as goal

pub returns-clause-named : goal.returns-clause-named
returns-clause-named c = λ k d h.
    let was = c.in_ok-marks.ensures.named k d h in
    (named_same (mark_of c.in_ok-marks.marks) (mark_of c.count_rows.new.marks) (get_or c.args.steps.now k d).deleted c.in_ok-count_rows.ensures.names was.0, named_same (mark_of c.in_ok-marks.marks) (mark_of c.count_rows.new.marks) (get_or c.args.steps.now k d).added c.in_ok-count_rows.ensures.names was.1)
