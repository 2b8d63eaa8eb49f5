use Rattle.std.proofs.Common.{◌≡◌, List, ◌++◌, option_map}
use Rattle.dns_record.specs.Record.{PlainRecord}
use Rattle.zone_index.specs.Addresses.{first_about}
use Rattle.zone_index.specs.Placed.{rules_in}
use Rattle.zone_index.proofs.addresses.first_prefix.Given as goal

abbrev pub invariant-loop-rr : goal.invariant-loop-rr
invariant-loop-rr l =
    (goal.iterator-loop-rr).can_next l.rr-iterator × (goal.iterator-loop-rr).is_finite l.rr-iterator
    × (done : List PlainRecord) × (done ++ l.rr-iterator ≡ l.fn.records) × (l.first ≡ option_map (λ e. e.0) (first_about l.owner done (rules_in l.rows).response_ip))
