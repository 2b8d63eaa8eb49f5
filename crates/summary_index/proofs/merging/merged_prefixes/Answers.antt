use Rattle.std.proofs.lemmas.Result.{IfOk-weaker}
use Rattle.prefix_index.proofs.Order.{prefix_order_total}
use Rattle.summary_index.proofs.MergedZones.{sorted_merged, zones_merged}
use Rattle.summary_index.proofs.merging.merged_prefixes.Goals as goal

pub returns-clause-sorted : goal.returns-clause-sorted
returns-clause-sorted c =
    IfOk-weaker c.merge_prefixes.result _ _ (λ es e. sorted_merged prefix_order_total c.args.first.now c.args.second.now es.items c.requires.first c.requires.second e) c.merge_prefixes.ensures

pub returns-clause-zones : goal.returns-clause-zones
returns-clause-zones c =
    IfOk-weaker c.merge_prefixes.result _ _ (λ es e. zones_merged prefix_order_total c.args.first.now c.args.second.now es.items c.requires.first c.requires.second e) c.merge_prefixes.ensures
