use Rattle.std.proofs.Common.{◌≡◌, take, All}
use Rattle.std.specs.Prelude.{IsOk}
use Rattle.load_gen.specs.Tallied.{joined_parts}
use Rattle.load_gen.proofs.running.joined.Given as goal

abbrev pub invariant-loop-part : goal.invariant-loop-part
invariant-loop-part l = (l.all ≡ joined_parts (take l.part-index l.parts)) × All IsOk (take l.part-index l.parts)
