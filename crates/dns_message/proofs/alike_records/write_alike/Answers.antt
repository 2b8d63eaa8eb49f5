use Rattle.std.proofs.Common.{arith}
use Rattle.dns_message.proofs.AlikeLemmas.{alike_beyond, alike_done, alike_more}
use Rattle.dns_message.proofs.alike_records.write_alike.Goals as goal

pub returns-then-len-limit-clause-progress : goal.returns-then-len-limit-clause-progress
returns-then-len-limit-clause-progress c places all =
    alike_beyond places c.args.limit c.args.offset c.args.seconds c.loop-rr.out c.write_aged_behind.new.out _ c.in-Some.rr c.loop-rr.rr-iterator c.next.new.self c.in-Some.ensures.steps (c.in_ok-write_aged_behind.ensures places) (omega (arith, c.if-len-limit.true, c.len.ensures))
    (c.loop-rr.invariant.2 places all)

pub loop-rr-preserved : goal.loop-rr-preserved
loop-rr-preserved c = (
  tt,
  tt,
  λ places all. alike_more places c.args.limit c.args.offset c.args.seconds c.loop-rr.out c.write_aged_behind.new.out _ c.in-Some.rr c.loop-rr.rr-iterator c.next.new.self c.in-Some.ensures.steps (c.in_ok-write_aged_behind.ensures places)
      (omega (arith, c.if-len-limit.false, c.len.ensures)) (c.loop-rr.invariant.2 places all),
)

pub returns-clause-progress : goal.returns-clause-progress
returns-clause-progress c places all = alike_done places c.args.limit c.args.offset c.args.seconds c.loop-rr.out _ c.loop-rr.rr-iterator c.in-None.ensures.steps.0 (c.loop-rr.invariant.2 places all)
