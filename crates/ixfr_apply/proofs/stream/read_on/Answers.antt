use Rattle.std.proofs.Common.{refl, arith}
use Rattle.std.proofs.lemmas.Result.{err_from_is_err_and}
use Rattle.ixfr_apply.proofs.Streams.{first_come, message_error, error_taken, frame_taken, takes_more, fed_error, fed_current, fed_done, comes_on, retold}
use Rattle.ixfr_apply.proofs.stream.read_on.Goals as goal

pub loop-message-init : goal.loop-message-init
loop-message-init g c = record {
  come = first_come _ c.args.reader.now _ refl c.requires;
  count = omega arith;
  steady = λ h. h;
}

pub returns-in_err-message-clause-reads : goal.returns-in_err-message-clause-reads
returns-in_err-message-clause-reads g c =
    let p = err_from_is_err_and c.from_residual.result c.from_residual.ensures.1 in
    rw (p.1, p.2) (message_error _ c.loop-message.reader _ _ _ c.in_err-message.field-0.0 c.loop-message.invariant.come c.in_err-message.ensures.takes)

pub returns-in_err-feed-clause-reads : goal.returns-in_err-feed-clause-reads
returns-in_err-feed-clause-reads g c =
    let p = err_from_is_err_and c.from_residual-in_err-feed.result c.from_residual-in_err-feed.ensures.1 in
    rw (p.1, p.2) (fed_error _ c.loop-message.reader c.feed.new.self _ _ _ _ c.in_err-feed.field-0.0 c.loop-message.invariant.come (retold _ _ _ _ c.as_slice.ensures c.in_ok-message.ensures.takes) c.in_err-feed.ensures.fed)

pub returns-in-Current-clause-reads : goal.returns-in-Current-clause-reads
returns-in-Current-clause-reads g c =
    fed_current _ c.loop-message.reader c.feed.new.self _ _ _ _ c.in-Current.theirs c.loop-message.invariant.come (retold _ _ _ _ c.as_slice.ensures c.in_ok-message.ensures.takes) (rw c.in-Current.is at c.in_ok-feed.ensures.fed)

pub returns-in-Done-clause-reads : goal.returns-in-Done-clause-reads
returns-in-Done-clause-reads g c =
    fed_done _ c.loop-message.reader c.feed.new.self _ _ _ _ c.in-Done.transfer c.loop-message.invariant.come (retold _ _ _ _ c.as_slice.ensures c.in_ok-message.ensures.takes) (rw c.in-Done.is at c.in_ok-feed.ensures.fed)

pub returns-in_err-message-clause-taken : goal.returns-in_err-message-clause-taken
returns-in_err-message-clause-taken g c = takes_more _ _ _ c.loop-message.invariant.come.taken (error_taken _ _ _ c.in_err-message.ensures.takes)

pub returns-in_err-feed-clause-taken : goal.returns-in_err-feed-clause-taken
returns-in_err-feed-clause-taken g c = takes_more _ _ _ c.loop-message.invariant.come.taken (frame_taken _ _ _ c.in_ok-message.ensures.takes)

pub returns-in-Current-clause-taken : goal.returns-in-Current-clause-taken
returns-in-Current-clause-taken g c = takes_more _ _ _ c.loop-message.invariant.come.taken (frame_taken _ _ _ c.in_ok-message.ensures.takes)

pub returns-in-Done-clause-taken : goal.returns-in-Done-clause-taken
returns-in-Done-clause-taken g c = takes_more _ _ _ c.loop-message.invariant.come.taken (frame_taken _ _ _ c.in_ok-message.ensures.takes)

pub loop-message-preserved : goal.loop-message-preserved
loop-message-preserved g c = record {
  come = comes_on _ c.loop-message.reader c.feed.new.self _ _ _ _ c.loop-message.invariant.come (retold _ _ _ _ c.as_slice.ensures c.in_ok-message.ensures.takes) (rw c.in-More.is at c.in_ok-feed.ensures.fed) c.feed.ensures.asked;
  count = omega (arith, c.loop-message.invariant.count, c.next_message.ensures.count);
  steady = λ h. (c.next_message.ensures.steady (c.loop-message.invariant.steady h)).1;
}
