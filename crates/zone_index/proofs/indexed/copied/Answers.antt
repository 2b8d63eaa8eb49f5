use Rattle.std.proofs.Common.{◌++◌, ◌∷◌, [], ap, ◌∙◌}
use Rattle.dns_record.specs.Row.{PlainRow}
use Rattle.packed_lists.specs.RowsSeen.{seen}
use Rattle.zone_index.proofs.Copied.{one_copied, stored_got}
use Rattle.zone_index.proofs.indexed.copied.Goals as goal

pub new-requires : goal.new-requires
new-requires c = stored_got c.args.list.now.rows c.loop-place.place (seen c.nth.result) c.requires c.nth.ensures

pub loop-place-preserved : goal.loop-place-preserved
loop-place-preserved c =
    one_copied c.loop-place.place c.args.list.now.rows (seen c.nth.result) c.loop-place.rows c.push_ref.new.self c.loop-place.invariant c.nth.ensures
    (c.in_ok-push_ref.ensures.ok ∙ ap (λ (r : PlainRow). c.loop-place.rows ++ r ∷ []) c.new.ensures)
