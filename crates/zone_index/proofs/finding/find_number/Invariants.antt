use Rattle.std.proofs.Common.{◌≡◌, drop}
use Rattle.zone_index.specs.Placed.{number_among}
use Rattle.zone_index.proofs.finding.find_number.Given as goal

abbrev pub invariant-loop-number : goal.invariant-loop-number
invariant-loop-number l = number_among l.key l.rows.rows (drop l.number-index l.numbers) ≡ number_among l.key l.rows.rows l.numbers
