use Rattle.std.proofs.Common.{◌&&◌, sym, ap, ◌∙◌}
use Rattle.std.specs.List.{list_any}
use Rattle.ip_prefix.specs.Prefix.{contains}
use Rattle.prefix_index.specs.Bits.{PlainBits, bits_keys}
use Rattle.prefix_index.specs.Walk.{any_has}
use Rattle.prefix_index.proofs.Joining.{joined_four, joined_six}
use Rattle.prefix_index.proofs.map.PrefixTrie.joined.Goals as goal

pub returns-in-V4-clause-found : goal.returns-in-V4-clause-found
returns-in-V4-clause-found g c = λ n.
    let has = g.N.NumberSet.has in
    c.joined.ensures.found n
    ∙ ap (λ (key : PlainBits). any_has (bits_keys 32) has key n c.self.inside.four) c.new.ensures
    ∙ joined_four has c.self.inside.four c.self.inside.six c.in-V4.number n c.joined.ensures.entries
    ∙ (λ i. list_any (λ e. contains e.0 (sym c.in-V4.is i) && has e.1.value n) (c.self.view_is i))

pub returns-in-V6-clause-found : goal.returns-in-V6-clause-found
returns-in-V6-clause-found g c = λ n.
    let has = g.N.NumberSet.has in
    c.joined-in-V6.ensures.found n
    ∙ ap (λ (key : PlainBits). any_has (bits_keys 128) has key n c.self.inside.six) c.new-in-V6.ensures
    ∙ joined_six has c.self.inside.four c.self.inside.six c.in-V6.number n c.joined-in-V6.ensures.entries
    ∙ (λ i. list_any (λ e. contains e.0 (sym c.in-V6.is i) && has e.1.value n) (c.self.view_is i))
