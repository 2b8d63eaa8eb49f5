use Rattle.std.proofs.Common.{map, subst, arith}
use Rattle.packed_lists.specs.KeysSeen.{keyed_seen}
use Rattle.zone_index.specs.Gathering.{AreGathered}
use Rattle.zone_index.proofs.ManyRows.{AreRows, further, none_gathered, still_within}
use Rattle.zone_index.proofs.Numbered.{all_recursion}
use Rattle.zone_rows.specs.Stored.{IsStored}
use Rattle.zone_index.proofs.gathering.gather.Goals as goal

pub loop-done-init : goal.loop-done-init
loop-done-init c =
    let r : AreRows c.args.origin.now c.args.rows.now.rows = record {
      names = record { by_octets = c.names_of_equal_octets_are_equal.ensures; lower_once = c.case_does_not_matter.ensures.lower };
      apart = c.octets_tell_places_apart.ensures;
      next = c.args.rows.now.next;
      rise = c.len-count.ensures.rising;
      stored = all_recursion IsStored c.args.rows.now.rows c.requires.stored;
      sized = c.requires.keys.sized;
    } in
    (none_gathered c.args.origin.now c.args.rows.now.rows r (map keyed_seen c.args.keys.now) c.requires.keys c.empty-entries.result c.empty-entries.ensures, omega arith)

pub loop-done-preserved : goal.loop-done-preserved
loop-done-preserved c = (
  subst (AreGathered c.args.origin.now c.args.rows.now.rows c.in_ok-with_next.with_next) (further c.args.keys.now c.loop-done.done c.in_ok-with_next.count) c.in_ok-with_next.ensures.gathered,
  still_within c.args.keys.now c.loop-done.done c.in_ok-with_next.count c.loop-done.invariant.1 c.in_ok-with_next.ensures.within,
)
