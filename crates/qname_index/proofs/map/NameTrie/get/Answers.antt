use Rattle.std.proofs.Common.{ap, ◌∙◌}
use Rattle.qname_index.specs.Key.{name_key}
use Rattle.qname_index.proofs.Edited.{IsAsked, found_pattern_at}
use Rattle.qname_index.proofs.map.NameTrie.get.Goals as goal

pub returns : goal.returns
returns g c =
    let p = c.args.pattern.now in
    let asked : IsAsked c.as_slice.result.now c.is_wild.result p = record { key = c.as_slice.ensures ∙ c.of-key.ensures.key ∙ ap name_key c.base.ensures.base; kind = c.is_wild.ensures } in
    found_pattern_at c.self.inside.trie c.args.self.now c.as_slice.result.now c.is_wild.result p c.get.result asked c.self.invariant c.get.ensures.value c.self.view_is
