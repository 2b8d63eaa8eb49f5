use Rattle.std.proofs.Common.{ap, ◌∙◌}
use Rattle.std.specs.BTreeMap.{insert_entry}
use Rattle.qname_index.specs.Best.{pattern_order}
use Rattle.qname_index.specs.Index.{IsKey}
use Rattle.qname_index.specs.Key.{name_key}
use Rattle.qname_index.proofs.Edited.{IsAsked, based_key, with_pattern}
use Rattle.qname_index.proofs.map.NameTrie.inserted.Goals as goal

pub invariant_of-result : goal.invariant_of-result
invariant_of-result g c =
    let p = c.args.pattern.now in
    let asked : IsAsked c.as_slice.result.now c.is_wild.result p = record { key = c.as_slice.ensures ∙ c.of-key.ensures.key ∙ ap name_key c.base.ensures.base; kind = c.is_wild.ensures } in
    let key : IsKey p = based_key c.base.result.now p c.base.ensures.base c.base.ensures.name c.base.ensures.lower in
    (with_pattern c.self.inside.trie c.in_ok-trie.trie c.as_slice.result.now c.is_wild.result p c.args.value asked key c.self.invariant c.in_ok-trie.ensures).0

pub returns : goal.returns
returns g c =
    let p = c.args.pattern.now in
    let asked : IsAsked c.as_slice.result.now c.is_wild.result p = record { key = c.as_slice.ensures ∙ c.of-key.ensures.key ∙ ap name_key c.base.ensures.base; kind = c.is_wild.ensures } in
    let key : IsKey p = based_key c.base.result.now p c.base.ensures.base c.base.ensures.name c.base.ensures.lower in
    (with_pattern c.self.inside.trie c.in_ok-trie.trie c.as_slice.result.now c.is_wild.result p c.args.value asked key c.self.invariant c.in_ok-trie.ensures).1
    ∙ ap (λ es. insert_entry pattern_order es p c.args.value) c.self.view_is
