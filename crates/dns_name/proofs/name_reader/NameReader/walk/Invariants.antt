use Rattle.std.proofs.Common.{◌+◌, ◌-◌, ◌*◌, ◌≤◌, ◌++◌, take, drop}
use Rattle.dns_name.proofs.Loop.{HasWalked}
use Rattle.dns_name.proofs.name_reader.NameReader.walk.Given as goal

abbrev pub invariant-loop-wire : goal.invariant-loop-wire
invariant-loop-wire l = (l.run ≤ l.place) × HasWalked l.message l.at l.run l.used l.place (l.wire.items ++ take (l.place - l.run) (drop l.run l.message)) l.after

abbrev pub decreases-loop-wire : goal.decreases-loop-wire
decreases-loop-wire l = 256 * l.run + (255 - l.used)
