use Rattle.std.proofs.Common.{length}
use Rattle.dns_name.specs.Tails.{IsTail, AreTails}
use Rattle.dns_name.proofs.name_reader.mark.Given as goal

abbrev pub invariant-loop-step : goal.invariant-loop-step
invariant-loop-step l = IsTail l.message l.octets l.place l.from (length l.octets) × AreTails l.message l.octets l.spans.items
