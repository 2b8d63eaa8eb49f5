use Rattle.std.proofs.Common.{◌≡◌, map, take}
use Rattle.load_gen.specs.Summed.{turn_for}
use Rattle.load_gen.specs.Tallied.{tally_of}
use Rattle.policy_snapshot.specs.Stands.{policy_in}
use Rattle.load_gen.proofs.answering.tally_under.Given as goal

abbrev pub invariant-loop-query : goal.invariant-loop-query
invariant-loop-query l = l.tally ≡ tally_of (map (turn_for (policy_in l.policy)) (take l.query-index l.queries))
