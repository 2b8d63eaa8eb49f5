use Rattle.axfr_apply.proofs.Unclosed.{unclosed_is_none}
use Rattle.axfr_apply.proofs.gathered.Gathered.into_transfer.Goals as goal

pub returns-in_default : goal.returns-in_default
returns-in_default c =
    let none = unclosed_is_none c.self.inside.form c.self.invariant c.in_default.not-ClosedWhole c.in_default.not-ClosedSteps in
    (rw (← c.self.view_is) none, c.self.view_is)
