use Rattle.std.proofs.Common.{◌+◌}
use Rattle.zone_rows.proofs.DraftSteps.{then_adds}
use Rattle.zone_rows.proofs.draft.Draft.apply.Goals as goal

pub returns : goal.returns
returns c =
    then_adds c.add_all.result c.args.base.now c.args.self.now c.delete_all.new.self c.add_all.new.self c.args.bound (c.args.step + 1) c.args.deleted c.args.added c.in_ok-delete_all.ensures c.add_all.ensures
