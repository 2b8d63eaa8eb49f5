use Rattle.std.proofs.Common.{◌≤◌, subst, IfSome}
use Rattle.trie_keys.proofs.Entries.{all_map}
use Rattle.prefix_index.specs.Bits.{bits_keys}
use Rattle.prefix_index.specs.Made.{IsKey, IsMadeOf}
use Rattle.prefix_index.specs.Ranked.{four_bits, six_bits}
use Rattle.prefix_index.proofs.Making.{made}
use Rattle.prefix_index.proofs.map.PrefixTrie.of_distinct.Goals as goal

pub invariant_of-result : goal.invariant_of-result
invariant_of-result g c =
    let p = subst (λ o. IfSome o (IsMadeOf (bits_keys 32) four_bits c.args.entries.now)) c.in-Some.is c.in_ok-four.ensures in
    let q = subst (λ o. IfSome o (IsMadeOf (bits_keys 128) six_bits c.args.entries.now)) c.in-Some-2.is c.in_ok-six.ensures in
    (all_map (λ e. IsKey (bits_keys 32) e.0) (λ e. 1 ≤ e.0.len) _ (λ e k. k.some) p.each, all_map (λ e. IsKey (bits_keys 128) e.0) (λ e. 1 ≤ e.0.len) _ (λ e k. k.some) q.each)

pub returns : goal.returns
returns g c =
    let p = subst (λ o. IfSome o (IsMadeOf (bits_keys 32) four_bits c.args.entries.now)) c.in-Some.is c.in_ok-four.ensures in
    let q = subst (λ o. IfSome o (IsMadeOf (bits_keys 128) six_bits c.args.entries.now)) c.in-Some-2.is c.in_ok-six.ensures in
    made c.args.entries.now c.in-Some.four c.in-Some-2.six p q
