use Rattle.std.proofs.Common.{◌≡◌, sym, ap, ◌∙◌}
use Rattle.std.specs.BTreeMap.{is_at}
use Rattle.std.specs.Map.{lookup}
use Rattle.ip_prefix.specs.Prefix.{prefix_order}
use Rattle.prefix_index.specs.Bits.{PlainBits, bits_order}
use Rattle.prefix_index.specs.Ranked.{prefix_four, prefix_six}
use Rattle.prefix_index.proofs.Ranking.{look_four, look_six}
use Rattle.prefix_index.proofs.map.PrefixTrie.get.Goals as goal

pub returns-in-V4 : goal.returns-in-V4
returns-in-V4 g c =
    let four = c.self.inside.four in
    let six = c.self.inside.six in
    let k : PlainBits = record { number = c.in-V4.number; len = c.length.result } in
    let p : prefix_four k ≡ c.args.prefix.now = λ i. record { addr = c.in-V4.ensures.addr i; length = c.length.ensures.length i } in
    c.get.ensures
    ∙ ap (λ k. lookup (is_at (bits_order k)) four) c.new.ensures
    ∙ sym (look_four k four six)
    ∙ (λ i. lookup (is_at (prefix_order (p i))) (c.self.view_is i))

pub returns-in-V6 : goal.returns-in-V6
returns-in-V6 g c =
    let four = c.self.inside.four in
    let six = c.self.inside.six in
    let k : PlainBits = record { number = c.in-V6.number; len = c.length-in-V6.result } in
    let p : prefix_six k ≡ c.args.prefix.now = λ i. record { addr = c.in-V6.ensures.addr i; length = c.length-in-V6.ensures.length i } in
    c.get-in-V6.ensures
    ∙ ap (λ k. lookup (is_at (bits_order k)) six) c.new-in-V6.ensures
    ∙ sym (look_six k four six)
    ∙ (λ i. lookup (is_at (prefix_order (p i))) (c.self.view_is i))
