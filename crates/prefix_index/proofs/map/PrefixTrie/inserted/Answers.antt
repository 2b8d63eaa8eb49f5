use Rattle.std.proofs.Common.{◌≡◌, ◌≤◌, sym, ap, ◌∙◌, subst, arith}
use Rattle.std.specs.BTreeMap.{insert_entry}
use Rattle.ip_prefix.specs.Prefix.{prefix_order}
use Rattle.prefix_index.specs.Bits.{PlainBits, bits_order}
use Rattle.prefix_index.specs.Ranked.{AreSome, prefix_four, prefix_six, ranked_prefixes}
use Rattle.prefix_index.proofs.Ranking.{with_four, with_six, some_inserted}
use Rattle.prefix_index.proofs.Same.{some_bits}
use Rattle.prefix_index.proofs.map.PrefixTrie.inserted.Goals as goal

pub invariant_of-result : goal.invariant_of-result
invariant_of-result g c =
    let k : PlainBits = record { number = c.in-V4.number; len = c.length.result } in
    let some : 1 ≤ k.len = omega (arith, some_bits c.args.prefix.now c.length.ensures.is_prefix, c.length.ensures.length) in
    let list = c.in_ok-four-in-V4.ensures ∙ ap (λ k. insert_entry bits_order c.self.inside.four k c.args.value) c.new.ensures in
    (subst (λ es. AreSome es) (sym list) (some_inserted k c.args.value c.self.inside.four some c.self.invariant.0), c.self.invariant.1)

pub returns-in_ok-four-in-V4 : goal.returns-in_ok-four-in-V4
returns-in_ok-four-in-V4 g c =
    let k : PlainBits = record { number = c.in-V4.number; len = c.length.result } in
    let v = c.args.value in
    let p : prefix_four k ≡ c.args.prefix.now = λ i. record { addr = c.in-V4.ensures.addr i; length = c.length.ensures.length i } in
    let list = c.in_ok-four-in-V4.ensures ∙ ap (λ k. insert_entry bits_order c.self.inside.four k v) c.new.ensures in
    (λ i. ranked_prefixes (list i) c.self.inside.six) ∙ with_four c.self.inside.four c.self.inside.six k v ∙ (λ i. insert_entry prefix_order (c.self.view_is i) (p i) v)

pub invariant_of-result-in-V6 : goal.invariant_of-result-in-V6
invariant_of-result-in-V6 g c =
    let k : PlainBits = record { number = c.in-V6.number; len = c.length-in-V6.result } in
    let some : 1 ≤ k.len = omega (arith, some_bits c.args.prefix.now c.length-in-V6.ensures.is_prefix, c.length-in-V6.ensures.length) in
    let list = c.in_ok-six-in-V6.ensures ∙ ap (λ k. insert_entry bits_order c.self.inside.six k c.args.value) c.new-in-V6.ensures in
    (c.self.invariant.0, subst (λ es. AreSome es) (sym list) (some_inserted k c.args.value c.self.inside.six some c.self.invariant.1))

pub returns-in_ok-six-in-V6 : goal.returns-in_ok-six-in-V6
returns-in_ok-six-in-V6 g c =
    let k : PlainBits = record { number = c.in-V6.number; len = c.length-in-V6.result } in
    let v = c.args.value in
    let p : prefix_six k ≡ c.args.prefix.now = λ i. record { addr = c.in-V6.ensures.addr i; length = c.length-in-V6.ensures.length i } in
    let list = c.in_ok-six-in-V6.ensures ∙ ap (λ k. insert_entry bits_order c.self.inside.six k v) c.new-in-V6.ensures in
    (λ i. ranked_prefixes c.self.inside.four (list i)) ∙ with_six c.self.inside.four c.self.inside.six k v ∙ (λ i. insert_entry prefix_order (c.self.view_is i) (p i) v)
