use Rattle.std.proofs.Common.{◌≡◌, fold, take}
use Rattle.load_gen.specs.Summed.{next_mark}
use Rattle.load_gen.specs.Tallied.{next_power}
use Rattle.load_gen.proofs.tally.add_octets.Given as goal

abbrev pub invariant-loop-byte : goal.invariant-loop-byte
invariant-loop-byte l = (l.mark ≡ fold next_mark l.initial.mark (take l.byte-index l.octets)) × (l.power ≡ fold next_power l.initial.power (take l.byte-index l.octets))
