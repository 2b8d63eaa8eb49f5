use Rattle.std.proofs.Common.{◌≡◌, false, Result, sym, ◌∙◌, subst}
use Rattle.std.specs.Prelude.{is_some}
use Rattle.axfr_apply.specs.declared.fault.TransferFault.{TransferFault}
use Rattle.axfr_apply.specs.Block.{transfer_of}
use Rattle.ixfr_apply.specs.Progress.{Next, Takes}
use Rattle.ixfr_apply.proofs.Taking.{soa_counted}
use Rattle.ixfr_apply.proofs.progress.Progress.take_counted.Goals as goal

pub returns-in-Some : goal.returns-in-Some
returns-in-Some c =
    let still : is_some (transfer_of c.args.self.now.gathered) ≡ false = cc (c.is_closed.ensures, c.if-is_closed.false) in
    subst (λ (g : Result Next TransferFault). Takes c.take_soa.result c.take_soa.new.self g)
    (sym (soa_counted c.args.asked.now c.args.alone c.args.self.now c.args.rr.now c.in-Some.soa still (sym c.in_ok-held.ensures ∙ c.in-Some.is))) c.take_soa.ensures
