use Rattle.std.proofs.Common.{◌≡◌, map, take}
use Rattle.dns_record.specs.Row.{row_of}
use Rattle.load_gen.proofs.policy.rows_of.Given as goal

abbrev pub invariant-loop-rr : goal.invariant-loop-rr
invariant-loop-rr l = l.rows ≡ map row_of (take l.rr-index l.records)
