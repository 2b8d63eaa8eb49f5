use Rattle.std.proofs.Common.{◌≡◌, ◌≢◌, ◌∙◌, ℕ, List, [], ◌∷◌, Err, ap, sym, refl, rules, arith}
use Rattle.std.proofs.lemmas.List.{append-nil}
use Rattle.edge_io.specs.Edge.{prepended}
use Rattle.std.proofs.lemmas.Grind.{common_steps}
use Rattle.std.proofs.lemmas.Result.{err_from_is_err_and}
use Rattle.std.proofs.lemmas.List.Elements.{recursion_from_All}
use Rattle.script_loop.proofs.Lines.{lines_of-whole, lines_of-one}
use Rattle.script_loop.proofs.Steps.{started, stopped_reading, stopped_no_further, stopped_prefix, cut_short, unread_no_further, done, begins_same, answered_last, answered_prefix, answered_whole, goes_on, refused_no_further}
use Rattle.script_loop.proofs.replay.replay.Goals as goal

pub loop-reply-init : goal.loop-reply-init
loop-reply-init g c = record {
  so_far = started g.M.Machine.too_many g.M.Machine.too_long g.M.Machine.step c.args.machine.now (g.S.Source.left c.args.script.now) (g.K.Sink.held c.args.out.now) c.new-reader.result c.new-reader.ensures;
  source_count = search rules;
  sink_count = search rules;
  more = omega arith;
}

pub returns-in_err-next-clause-ends : goal.returns-in_err-next-clause-ends
returns-in_err-next-clause-ends g c =
    let p = err_from_is_err_and c.from_residual.result c.from_residual.ensures.1 in
    let so = c.loop-reply.invariant.so_far in
    rw p.1 (stopped_reading so c.loop-reply.machine c.in_err-next.field-0.0 p.0 c.next.new.line.items c.next.new.self _ c.in_err-next.ensures.no_feed p.2 c.in_err-next.ensures.reads)

pub returns-in_err-next-clause-prefix : goal.returns-in_err-next-clause-prefix
returns-in_err-next-clause-prefix g c =
    stopped_prefix c.loop-reply.invariant.so_far c.in_err-next.field-0.0 c.next.new.line.items c.next.new.self _ c.in_err-next.ensures.reads

pub returns-in-Cut-clause-ends : goal.returns-in-Cut-clause-ends
returns-in-Cut-clause-ends g c =
    let reads = rw c.in-Cut.is at c.in_ok-next.ensures.reads in
    rw c.refused_unread.ensures (cut_short c.loop-reply.invariant.so_far c.loop-reply.machine c.next.new.line.items c.next.new.self _ c.in_ok-next.ensures.no_feed reads.1 reads.0)

pub returns-in-Cut-clause-prefix : goal.returns-in-Cut-clause-prefix
returns-in-Cut-clause-prefix g c =
    let reads = rw c.in-Cut.is at c.in_ok-next.ensures.reads in
    begins_same c.loop-reply.invariant.so_far _ _ _ reads.0 refl

pub returns-in-Last-clause-ends : goal.returns-in-Last-clause-ends
returns-in-Last-clause-ends g c =
    let reads = rw c.in-Last.is at c.in_ok-next.ensures.reads in
    let none : c.next.new.line.items ≡ [] = grind (arith, common_steps) in
    done c.loop-reply.invariant.so_far c.next.new.line.items _ none reads.0 reads.1

pub returns-in-Last-clause-prefix : goal.returns-in-Last-clause-prefix
returns-in-Last-clause-prefix g c =
    let reads = rw c.in-Last.is at c.in_ok-next.ensures.reads in
    begins_same c.loop-reply.invariant.so_far _ _ _ reads.0 refl

pub returns-in-Last-2-clause-ends : goal.returns-in-Last-2-clause-ends
returns-in-Last-2-clause-ends g c =
    let reads = rw c.in-Last-2.is at c.in_ok-next.ensures.reads in
    let some : c.next.new.line.items ≢ [] = grind (arith, common_steps) in
    let answers = rw c.deref.ensures.value at c.answer.ensures.answers in
    answered_last c.loop-reply.invariant.so_far c.answer.result c.next.new.line.items c.answer.new.machine _ _ c.in_ok-next.ensures.no_feed some reads.0 reads.1 answers

pub returns-in-Last-2-clause-prefix : goal.returns-in-Last-2-clause-prefix
returns-in-Last-2-clause-prefix g c =
    let reads = rw c.in-Last-2.is at c.in_ok-next.ensures.reads in
    let some : c.next.new.line.items ≢ [] = grind (arith, common_steps) in
    let answers = rw c.deref.ensures.value at c.answer.ensures.answers in
    let one = lines_of-one c.next.new.line.items (recursion_from_All _ c.next.new.line.items c.in_ok-next.ensures.no_feed) some in
    answered_prefix c.loop-reply.invariant.so_far c.answer.result c.next.new.line.items c.next.new.line.items [] c.answer.new.machine _ _ reads.0 one answers

pub loop-reply-preserved : goal.loop-reply-preserved
loop-reply-preserved g c =
    let reads = rw c.in-Whole.is at c.in_ok-next.ensures.reads in
    let takes = rw c.deref-in-Whole.ensures.value at c.in_ok-answer-in-Whole.ensures.answers in
    record {
      so_far = goes_on c.loop-reply.invariant.so_far c.next.new.line.items c.next.new.self _ _ c.answer-in-Whole.new.machine c.in_ok-next.ensures.no_feed reads takes;
      source_count = omega (arith, c.in_ok-next.ensures.count);
      sink_count = omega (arith, c.in_ok-answer-in-Whole.ensures.count);
      more = omega (arith, c.in_ok-answer-in-Whole.ensures.more);
    }

pub returns-in_err-answer-in-Whole-clause-ends : goal.returns-in_err-answer-in-Whole-clause-ends
returns-in_err-answer-in-Whole-clause-ends g c =
    let p = err_from_is_err_and c.from_residual-in_err-answer-in-Whole.result c.from_residual-in_err-answer-in-Whole.ensures.1 in
    let reads = rw c.in-Whole.is at c.in_ok-next.ensures.reads in
    let answers = rw c.deref-in-Whole.ensures.value at c.in_err-answer-in-Whole.ensures.answers in
    rw (p.1, p.2) (answered_whole c.loop-reply.invariant.so_far c.in_err-answer-in-Whole.field-0.0 c.next.new.line.items c.next.new.self c.answer-in-Whole.new.machine _ _ c.in_ok-next.ensures.no_feed reads answers)

pub returns-in_err-answer-in-Whole-clause-prefix : goal.returns-in_err-answer-in-Whole-clause-prefix
returns-in_err-answer-in-Whole-clause-prefix g c =
    let reads = rw c.in-Whole.is at c.in_ok-next.ensures.reads in
    let answers = rw c.deref-in-Whole.ensures.value at c.answer-in-Whole.ensures.answers in
    let first = lines_of-whole c.next.new.line.items c.next.new.self (recursion_from_All _ c.next.new.line.items c.in_ok-next.ensures.no_feed) in
    answered_prefix c.loop-reply.invariant.so_far c.answer-in-Whole.result c.next.new.line.items _ _ c.answer-in-Whole.new.machine _ _ reads first answers

pub returns-in_err-next-clause-no_further : goal.returns-in_err-next-clause-no_further
returns-in_err-next-clause-no_further g c = λ line why stops.
    let p = err_from_is_err_and c.from_residual.result c.from_residual.ensures.1 in
    stopped_no_further c.loop-reply.invariant.so_far c.in_err-next.field-0.0 p.0 line why _ p.2 (rw p.1 at stops)

pub returns-in-Cut-clause-no_further : goal.returns-in-Cut-clause-no_further
returns-in-Cut-clause-no_further g c = λ line why stops.
    let reads = rw c.in-Cut.is at c.in_ok-next.ensures.reads in
    unread_no_further c.loop-reply.invariant.so_far _ line why c.next.new.line.items c.next.new.self _ c.in_ok-next.ensures.no_feed c.in_ok-next.ensures.chunk reads.0 (rw c.refused_unread.ensures at stops)

pub returns-in-Last-2-clause-no_further : goal.returns-in-Last-2-clause-no_further
returns-in-Last-2-clause-no_further g c = λ line why stops.
    let reads = rw c.in-Last-2.is at c.in_ok-next.ensures.reads in
    let came = reads.0 ∙ ap (λ (l : List ℕ). prepended l (g.S.Source.left c.next.new.source)) (sym (append-nil c.next.new.line.items)) in
    refused_no_further c.loop-reply.invariant.so_far c.answer.result line why _ c.next.new.line.items [] c.answer.new.machine _ _ _ c.in_ok-next.ensures.no_feed (omega arith) came c.answer.ensures.answers stops

pub returns-in_err-answer-in-Whole-clause-no_further : goal.returns-in_err-answer-in-Whole-clause-no_further
returns-in_err-answer-in-Whole-clause-no_further g c = λ line why stops.
    let p = err_from_is_err_and c.from_residual-in_err-answer-in-Whole.result c.from_residual-in_err-answer-in-Whole.ensures.1 in
    let reads = rw c.in-Whole.is at c.in_ok-next.ensures.reads in
    let few = (rw c.in-Whole.is at c.in_ok-next.ensures.feed) refl in
    refused_no_further c.loop-reply.invariant.so_far (Err c.in_err-answer-in-Whole.field-0.0) line why _ c.next.new.line.items (10 ∷ c.next.new.self) c.answer-in-Whole.new.machine _ _ _ c.in_ok-next.ensures.no_feed (omega (arith, few)) reads c.in_err-answer-in-Whole.ensures.answers (rw (p.1, p.2) at stops)
