use Rattle.std.proofs.Common.{◌+◌}
use Rattle.zone_index.proofs.Stepped.{added_one}
use Rattle.zone_index.proofs.stepping.add.Goals as goal

pub returns : goal.returns
returns c =
    added_one c.args.bound (c.args.step + 1) (c.args.place + 1) c.args.rows c.in_ok-rows.rows c.args.row.now c.in_ok-row.row c.in_ok-rows.is_new c.has_room-has_room.result c.len.result
    c.in_ok-row.ensures c.in_ok-rows.ensures c.if-not-is_new.false c.len.ensures.len c.has_room-has_room.ensures c.if-not-has_room.false
