use Rattle.std.proofs.Common.{◌≡◌, drop}
use Rattle.std.specs.List.{filter}
use Rattle.dns_message.specs.Reading.{is_opt, edns_in}
use Rattle.dns_message.proofs.Opts.{edns_after}
use Rattle.dns_message.proofs.opt_reading.edns_among.Given as goal

abbrev pub invariant-loop-rr : goal.invariant-loop-rr
invariant-loop-rr l = edns_after l.edns (filter is_opt (drop l.rr-index l.records)) ≡ edns_in (filter is_opt l.records)
