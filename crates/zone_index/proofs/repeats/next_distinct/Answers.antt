use Rattle.std.proofs.Common.{sym, map, subst}
use Rattle.packed_lists.specs.KeysSeen.{keyed_seen}
use Rattle.zone_index.specs.Gathering.{AreApart}
use Rattle.zone_index.proofs.ManyRows.{AreRows, one_apart, rest_seen}
use Rattle.zone_index.proofs.Numbered.{all_recursion}
use Rattle.zone_rows.specs.Stored.{IsStored}
use Rattle.zone_index.proofs.repeats.next_distinct.Goals as goal

pub returns-then-branch-clause-apart : goal.returns-then-branch-clause-apart
returns-then-branch-clause-apart c =
    let r : AreRows c.args.origin.now c.args.rows.now.rows = record {
      names = record { by_octets = c.names_of_equal_octets_are_equal.ensures; lower_once = c.case_does_not_matter.ensures.lower };
      apart = c.octets_tell_places_apart.ensures;
      next = c.args.rows.now.next;
      rise = c.len-count.ensures.rising;
      stored = all_recursion IsStored c.args.rows.now.rows c.requires.stored;
      sized = c.requires.sized;
    } in
    subst (AreApart c.args.origin.now c.args.rows.now.rows)
    (sym (rest_seen c.args.left.now c.first_run.result.0.now c.first_run.result.1.now c.first_run.ensures.whole))
    (one_apart c.args.origin.now c.args.rows.now.rows r (map keyed_seen c.args.left.now) (map keyed_seen c.first_run.result.0.now) (map keyed_seen c.first_run.result.1.now) c.requires.apart.whole c.first_run.ensures
    c.requires.apart (c.in_ok-is_run_distinct.ensures c.if-branch.true))
