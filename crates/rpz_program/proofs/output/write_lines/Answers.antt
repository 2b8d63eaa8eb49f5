use Rattle.rpz_program.proofs.Outputs.{wrote_nothing, wrote_part_of}
use Rattle.rpz_program.proofs.output.write_lines.Goals as goal

pub returns-then-is_cut-clause-ok : goal.returns-then-is_cut-clause-ok
returns-then-is_cut-clause-ok g c = λ lines before was. wrote_nothing c.args.is_cut lines c.args.text.now before _ was

pub returns-in-Err-WriteFault-clause-ok : goal.returns-in-Err-WriteFault-clause-ok
returns-in-Err-WriteFault-clause-ok g c = λ lines before was. wrote_part_of c.args.is_cut lines _ before _ _ c.if-is_cut.false was c.in-Err-WriteFault.ensures.err

pub returns-in-Err-OutOfMemory-clause-err : goal.returns-in-Err-OutOfMemory-clause-err
returns-in-Err-OutOfMemory-clause-err g c = λ lines before was. wrote_part_of c.args.is_cut lines _ before _ _ c.if-is_cut.false was c.in-Err-OutOfMemory.ensures.err
