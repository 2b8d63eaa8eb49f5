use Rattle.std.proofs.Common.{ap, ◌∙◌}
use Rattle.zone_rows.specs.declared.zone.PlainZone.{PlainZone}
use Rattle.zone_index.proofs.Zones.{zone_made, zone_fails}
use Rattle.zone_index.proofs.zone.Zone.apply.Goals as goal

pub returns-in-Err : goal.returns-in-Err
returns-in-Err c = zone_fails c.args.self.now c.args.transfer c.in-Err.error c.in-Err.ensures

pub returns-in_ok-copied_name-in-Ok : goal.returns-in_ok-copied_name-in-Ok
returns-in_ok-copied_name-in-Ok c =
    zone_made c.args.self.now c.args.transfer (record { soa = c.in-Ok.loaded.soa; rows = c.in-Ok.loaded.rows.rows }) c.in_ok-copied_name-in-Ok.field-0 c.in-Ok.ensures.0
    (c.in_ok-copied_name-in-Ok.ensures ∙ ap (λ (z : PlainZone). z.origin) c.self.view_is)
