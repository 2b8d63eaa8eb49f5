use Rattle.std.proofs.Common.{◌≡◌, sym, ap, ◌∙◌, subst}
use Rattle.std.specs.BTreeMap.{is_at}
use Rattle.std.specs.Map.{remove_entry}
use Rattle.ip_prefix.specs.Prefix.{prefix_order}
use Rattle.prefix_index.specs.Bits.{PlainBits, bits_order}
use Rattle.prefix_index.specs.Ranked.{AreSome, prefix_four, prefix_six, ranked_prefixes}
use Rattle.prefix_index.proofs.Ranking.{without_four, without_six, some_removed}
use Rattle.prefix_index.proofs.map.PrefixTrie.removed.Goals as goal

pub invariant_of-result : goal.invariant_of-result
invariant_of-result g c = (subst (λ es. AreSome es) (sym c.in_ok-four-in-V4.ensures.ok) (some_removed _ c.self.inside.four c.self.invariant.0), c.self.invariant.1)

pub returns-in_ok-four-in-V4 : goal.returns-in_ok-four-in-V4
returns-in_ok-four-in-V4 g c =
    let k : PlainBits = record { number = c.in-V4.number; len = c.length.result } in
    let p : prefix_four k ≡ c.args.prefix.now = λ i. record { addr = c.in-V4.ensures.addr i; length = c.length.ensures.length i } in
    let list = c.in_ok-four-in-V4.ensures.ok ∙ ap (λ k. remove_entry (is_at (bits_order k)) c.self.inside.four) c.new.ensures in
    (λ i. ranked_prefixes (list i) c.self.inside.six) ∙ without_four c.self.inside.four c.self.inside.six k c.removed.ensures.entries.sorted ∙ (λ i. remove_entry (is_at (prefix_order (p i))) (c.self.view_is i))

pub invariant_of-result-in-V6 : goal.invariant_of-result-in-V6
invariant_of-result-in-V6 g c = (c.self.invariant.0, subst (λ es. AreSome es) (sym c.in_ok-six-in-V6.ensures.ok) (some_removed _ c.self.inside.six c.self.invariant.1))

pub returns-in_ok-six-in-V6 : goal.returns-in_ok-six-in-V6
returns-in_ok-six-in-V6 g c =
    let k : PlainBits = record { number = c.in-V6.number; len = c.length-in-V6.result } in
    let p : prefix_six k ≡ c.args.prefix.now = λ i. record { addr = c.in-V6.ensures.addr i; length = c.length-in-V6.ensures.length i } in
    let list = c.in_ok-six-in-V6.ensures.ok ∙ ap (λ k. remove_entry (is_at (bits_order k)) c.self.inside.six) c.new-in-V6.ensures in
    (λ i. ranked_prefixes c.self.inside.four (list i)) ∙ without_six c.self.inside.four c.self.inside.six k c.removed-in-V6.ensures.entries.sorted ∙ (λ i. remove_entry (is_at (prefix_order (p i))) (c.self.view_is i))
