use Rattle.std.proofs.Common.{sym, map, subst}
use Rattle.packed_lists.specs.KeysSeen.{keyed_seen}
use Rattle.zone_index.specs.Gathering.{AreGathered}
use Rattle.zone_index.proofs.ManyRows.{AreRows, first_found, its_run, none_yet, one_gathered, rest_seen, run_within, seen_first}
use Rattle.zone_index.proofs.Numbered.{all_recursion}
use Rattle.zone_rows.specs.Stored.{IsStored}
use Rattle.zone_index.proofs.gathering.gather_next.Goals as goal

pub place_of_number-requires-clause-found : goal.place_of_number-requires-clause-found
place_of_number-requires-clause-found c =
    let r : AreRows c.args.origin.now c.args.rows.now.rows = record {
      names = record { by_octets = c.names_of_equal_octets_are_equal.ensures; lower_once = c.case_does_not_matter.ensures.lower };
      apart = c.octets_tell_places_apart.ensures;
      next = c.args.rows.now.next;
      rise = c.len-count.ensures.rising;
      stored = all_recursion IsStored c.args.rows.now.rows c.requires.stored;
      sized = c.requires.sized;
    } in
    first_found c.args.origin.now c.args.rows.now.rows r (map keyed_seen c.args.left.now) (map keyed_seen c.first_run.result.0.now) (map keyed_seen c.first_run.result.1.now) c.requires.gathered.whole c.first_run.ensures
    _ _ (seen_first c.first_run.result.0.now _ c.first_run.ensures.some)

pub gather_run-requires-clause-run : goal.gather_run-requires-clause-run
gather_run-requires-clause-run c =
    let r : AreRows c.args.origin.now c.args.rows.now.rows = record {
      names = record { by_octets = c.names_of_equal_octets_are_equal.ensures; lower_once = c.case_does_not_matter.ensures.lower };
      apart = c.octets_tell_places_apart.ensures;
      next = c.args.rows.now.next;
      rise = c.len-count.ensures.rising;
      stored = all_recursion IsStored c.args.rows.now.rows c.requires.stored;
      sized = c.requires.sized;
    } in
    its_run c.args.origin.now c.args.rows.now.rows r (map keyed_seen c.args.left.now) (map keyed_seen c.first_run.result.0.now) (map keyed_seen c.first_run.result.1.now) c.requires.gathered.whole c.first_run.ensures
    _ _ (seen_first c.first_run.result.0.now _ c.first_run.ensures.some) c.in_ok-place.place c.in_ok-place.ensures

pub gather_run-requires-clause-none : goal.gather_run-requires-clause-none
gather_run-requires-clause-none c =
    let r : AreRows c.args.origin.now c.args.rows.now.rows = record {
      names = record { by_octets = c.names_of_equal_octets_are_equal.ensures; lower_once = c.case_does_not_matter.ensures.lower };
      apart = c.octets_tell_places_apart.ensures;
      next = c.args.rows.now.next;
      rise = c.len-count.ensures.rising;
      stored = all_recursion IsStored c.args.rows.now.rows c.requires.stored;
      sized = c.requires.sized;
    } in
    none_yet c.args.origin.now c.args.rows.now.rows r (map keyed_seen c.args.left.now) (map keyed_seen c.first_run.result.0.now) (map keyed_seen c.first_run.result.1.now) c.requires.gathered.whole c.first_run.ensures
    _ _ (seen_first c.first_run.result.0.now _ c.first_run.ensures.some) c.in_ok-place.place c.in_ok-place.ensures c.args.entries c.requires.gathered

pub returns-clause-gathered : goal.returns-clause-gathered
returns-clause-gathered c =
    let r : AreRows c.args.origin.now c.args.rows.now.rows = record {
      names = record { by_octets = c.names_of_equal_octets_are_equal.ensures; lower_once = c.case_does_not_matter.ensures.lower };
      apart = c.octets_tell_places_apart.ensures;
      next = c.args.rows.now.next;
      rise = c.len-count.ensures.rising;
      stored = all_recursion IsStored c.args.rows.now.rows c.requires.stored;
      sized = c.requires.sized;
    } in
    subst (AreGathered c.args.origin.now c.args.rows.now.rows c.in_ok-entries.entries)
    (sym (rest_seen c.args.left.now c.first_run.result.0.now c.first_run.result.1.now c.first_run.ensures.whole))
    (one_gathered c.args.origin.now c.args.rows.now.rows r (map keyed_seen c.args.left.now) (map keyed_seen c.first_run.result.0.now) (map keyed_seen c.first_run.result.1.now) c.requires.gathered.whole c.first_run.ensures
    _ _ (seen_first c.first_run.result.0.now _ c.first_run.ensures.some) c.in_ok-place.place c.in_ok-place.ensures c.args.entries c.in_ok-entries.entries c.requires.gathered c.in_ok-entries.ensures)

pub returns-clause-within : goal.returns-clause-within
returns-clause-within c = run_within c.args.left.now c.first_run.result.0.now c.first_run.result.1.now c.first_run.ensures.whole
