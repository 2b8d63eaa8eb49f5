use Rattle.std.proofs.Common.{ap, ◌∙◌}
use Rattle.std.specs.BTreeMap.{is_at}
use Rattle.std.specs.Map.{remove_entry}
use Rattle.qname_index.specs.Best.{pattern_order}
use Rattle.qname_index.specs.Key.{name_key}
use Rattle.qname_index.proofs.Edited.{IsAsked, without_pattern}
use Rattle.qname_index.proofs.map.NameTrie.removed.Goals as goal

pub invariant_of-result : goal.invariant_of-result
invariant_of-result g c =
    let p = c.args.pattern.now in
    let asked : IsAsked c.as_slice.result.now c.is_wild.result p = record { key = c.as_slice.ensures ∙ c.of-key.ensures.key ∙ ap name_key c.base.ensures.base; kind = c.is_wild.ensures } in
    (without_pattern c.self.inside.trie c.in_ok-trie.trie c.as_slice.result.now c.is_wild.result p asked c.self.invariant c.in_ok-trie.ensures).0

pub returns : goal.returns
returns g c =
    let p = c.args.pattern.now in
    let asked : IsAsked c.as_slice.result.now c.is_wild.result p = record { key = c.as_slice.ensures ∙ c.of-key.ensures.key ∙ ap name_key c.base.ensures.base; kind = c.is_wild.ensures } in
    (without_pattern c.self.inside.trie c.in_ok-trie.trie c.as_slice.result.now c.is_wild.result p asked c.self.invariant c.in_ok-trie.ensures).1
    ∙ ap (λ es. remove_entry (is_at (pattern_order p)) es) c.self.view_is
