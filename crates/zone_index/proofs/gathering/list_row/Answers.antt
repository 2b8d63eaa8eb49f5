use Rattle.std.proofs.Common.{◌++◌, ap, ◌∙◌}
use Rattle.packed_lists.specs.RowsSeen.{seen}
use Rattle.zone_index.proofs.Listing.{row_listed, stored_there, where_ok}
use Rattle.zone_index.specs.PlaceOctets.{place_octets}
use Rattle.zone_index.proofs.gathering.list_row.Goals as goal

pub stored_place-requires : goal.stored_place-requires
stored_place-requires c = stored_there c.args.rows.now.rows c.args.at (seen c.nth-row.result) c.requires.stored c.nth-row.ensures

pub returns : goal.returns
returns c =
    where_ok c.push.result _ _ c.push.ensures.ok
    (row_listed c.args.origin.now c.args.rows.now.rows c.args.at (seen c.nth-row.result) c.nth-row.ensures c.in_ok-place.place c.in_ok-place.ensures c.write_place.ensures.sized
    (c.deref.ensures.value ∙ c.in_ok-write_place.ensures.octets ∙ ap (λ l. l ++ place_octets c.in_ok-place.place) c.clear.ensures.items) c.args.list.now c.push.new.self c.requires.listed)
