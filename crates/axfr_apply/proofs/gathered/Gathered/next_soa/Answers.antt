use Rattle.axfr_apply.proofs.SoaEnds.{end_behind_step, end_by_version}
use Rattle.axfr_apply.proofs.gathered.Gathered.next_soa.Goals as goal

pub new_version-requires : goal.new_version-requires
new_version-requires c = let inv = rw c.in-Deleting.is at c.self.invariant in rw c.in-Deleting.is inv

pub behind_step-requires : goal.behind_step-requires
behind_step-requires c = let inv = rw c.in-Adding.is at c.self.invariant in rw c.in-Adding.is inv

pub returns-in-Deleting : goal.returns-in-Deleting
returns-in-Deleting c =
    let inv = rw c.in-Deleting.is at c.self.invariant in
    let goes = rw c.in-Deleting.is at c.new_version.ensures in
    rw (← c.self.view_is, c.in-Deleting.is, end_by_version c.args.wanted c.args.alone c.in-Deleting.soa c.in-Deleting.step c.args.next inv) goes

pub returns-in-Adding : goal.returns-in-Adding
returns-in-Adding c =
    let inv = rw c.in-Adding.is at c.self.invariant in
    let goes = rw c.in-Adding.is at c.behind_step.ensures in
    rw (← c.self.view_is, c.in-Adding.is, end_behind_step c.args.wanted c.args.alone c.in-Adding.soa c.in-Adding.step c.args.next inv) goes
