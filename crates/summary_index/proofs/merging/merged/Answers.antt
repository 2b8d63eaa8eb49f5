use Rattle.std.proofs.Common.{map}
use Rattle.std.proofs.lemmas.Result.{IfOk-weaker}
use Rattle.octet_trie.specs.Trie.{found_entry}
use Rattle.summary_index.proofs.MergedZones.{key_total, keys_merged, zones_merged}
use Rattle.summary_index.proofs.merging.merged.Goals as goal

pub returns-clause-keys : goal.returns-clause-keys
returns-clause-keys c =
    IfOk-weaker c.merge.result _ _ (λ es e. keys_merged (map found_entry c.args.first.now) (map found_entry c.args.second.now) (map found_entry es.items) c.requires.first c.requires.second e) c.merge.ensures

pub returns-clause-zones : goal.returns-clause-zones
returns-clause-zones c =
    IfOk-weaker c.merge.result _ _ (λ es e. zones_merged key_total (map found_entry c.args.first.now) (map found_entry c.args.second.now) (map found_entry es.items) c.requires.first.ordered c.requires.second.ordered e)
    c.merge.ensures
