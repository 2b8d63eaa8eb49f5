use Rattle.std.proofs.Common.{◌+◌, arith, ◌≤◌, length, inr}
use Rattle.script_loop.proofs.Folds.{line_outcome-taken}
use Rattle.script_loop.proofs.replay.answer.Goals as goal

pub returns-in-Err-WriteFault-clause-answers : goal.returns-in-Err-WriteFault-clause-answers
returns-in-Err-WriteFault-clause-answers g c =
    let wrote = rw c.deref.ensures.value at c.in-Err-WriteFault.ensures.err in
    let short : length c.args.line.now ≤ 200000 = omega arith in
    let few : c.args.number ≤ 4294967295 = omega arith in
    record {
      next = (c.args.number + 1, c.answer.new.self);
      written = c.answer.new.reply.items;
      count = wrote.0;
      does = line_outcome-taken g.M.Machine.too_many g.M.Machine.too_long g.M.Machine.step c.args.number c.args.machine.now c.answer.new.self c.args.line.now c.answer.new.reply.items few short c.in-Ok.ensures;
      to_sink = wrote.1;
    }

pub returns-in-Err-OutOfMemory-write_all-clause-answers : goal.returns-in-Err-OutOfMemory-write_all-clause-answers
returns-in-Err-OutOfMemory-write_all-clause-answers g c =
    let wrote = rw c.deref.ensures.value at c.in-Err-OutOfMemory-write_all.ensures.err in
    let short : length c.args.line.now ≤ 200000 = omega arith in
    let few : c.args.number ≤ 4294967295 = omega arith in
    inr (record {
      next = (c.args.number + 1, c.answer.new.self);
      written = c.answer.new.reply.items;
      count = wrote.0;
      does = line_outcome-taken g.M.Machine.too_many g.M.Machine.too_long g.M.Machine.step c.args.number c.args.machine.now c.answer.new.self c.args.line.now c.answer.new.reply.items few short c.in-Ok.ensures;
      to_sink = wrote.1;
    })
