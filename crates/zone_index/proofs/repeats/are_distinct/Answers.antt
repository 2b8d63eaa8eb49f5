use Rattle.std.proofs.Common.{map, drop, arith}
use Rattle.packed_lists.specs.KeysSeen.{keyed_seen}
use Rattle.zone_index.proofs.ManyRows.{AreRows, each_apart, done_all, none_apart}
use Rattle.zone_index.proofs.Numbered.{all_recursion}
use Rattle.zone_index.proofs.RowsApart.{all_distinct}
use Rattle.zone_rows.specs.Stored.{IsStored}
use Rattle.zone_index.proofs.repeats.are_distinct.Goals as goal

pub loop-done-init : goal.loop-done-init
loop-done-init c =
    let r : AreRows c.args.origin.now c.args.rows.now.rows = record {
      names = record { by_octets = c.names_of_equal_octets_are_equal.ensures; lower_once = c.case_does_not_matter.ensures.lower };
      apart = c.octets_tell_places_apart.ensures;
      next = c.args.rows.now.next;
      rise = c.len-count.ensures.rising;
      stored = all_recursion IsStored c.args.rows.now.rows c.requires.stored;
      sized = c.requires.keys.sized;
    } in
    (none_apart c.args.origin.now c.args.rows.now.rows r (map keyed_seen c.args.keys.now) c.requires.keys, omega arith)

pub returns : goal.returns
returns c =
    let r : AreRows c.args.origin.now c.args.rows.now.rows = record {
      names = record { by_octets = c.names_of_equal_octets_are_equal.ensures; lower_once = c.case_does_not_matter.ensures.lower };
      apart = c.octets_tell_places_apart.ensures;
      next = c.args.rows.now.next;
      rise = c.len-count.ensures.rising;
      stored = all_recursion IsStored c.args.rows.now.rows c.requires.stored;
      sized = c.requires.keys.sized;
    } in
    λ h. all_distinct r.names (λ row other is_row is_other. (c.rows_of_one_identity_differ_in_the_ttl_alone.ensures row other is_row is_other).0) c.args.origin.now c.args.rows.now.rows r.stored
    (each_apart c.args.origin.now c.args.rows.now.rows r (map keyed_seen (drop c.loop-done.done c.args.keys.now)) (done_all c.args.keys.now c.loop-done.done c.loop-done-test.false) c.loop-done.invariant.0)
