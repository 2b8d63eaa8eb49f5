use Rattle.std.proofs.Common.{◌≡◌, ◌+◌, get_or, take, refl, sym, ◌∙◌, subst, arith}
use Rattle.octet_trie.specs.Edits.{GapAt, KidAt}
use Rattle.octet_trie.specs.Nodes.{kids_of, name_of}
use Rattle.octet_trie.specs.Plain.{plain}
use Rattle.octet_trie.proofs.Joining.{any_apart, any_here, any_gap, any_below, any_chained, any_settled}
use Rattle.octet_trie.proofs.Putting.{common_with, same_key, same_len, key_goes, name_length}
use Rattle.octet_trie.proofs.Walking.{kid_longer, kid_begins}
use Rattle.octet_trie.proofs.walk.joined.Goals as goal

pub returns-then-same-node-clause-found : goal.returns-then-same-node-clause-found
returns-then-same-node-clause-found g c =
    let s = c.args.store.now in
    let n = plain g.M.Mark.present c.loop-node.node in
    let i = c.loop-node.invariant in
    let common = common_with s n c.name.result.now c.args.octets.now c.common-same.result c.name.ensures c.common-same.ensures in
    λ x. any_apart (λ v. g.N.NumberSet.has v.value x) s n c.args.octets.now c.common-same.result (g.N.NumberSet.has c.loop-node.found x) i.0 common c.if-same-node.true ∙ i.4 x

pub returns-then-same-octets-clause-found : goal.returns-then-same-octets-clause-found
returns-then-same-octets-clause-found g c =
    let s = c.args.store.now in
    let n = plain g.M.Mark.present c.loop-node.node in
    let octets = c.args.octets.now in
    let i = c.loop-node.invariant in
    let common = common_with s n c.name.result.now octets c.common-same.result c.name.ensures c.common-same.ensures in
    let same = same_key s n octets c.common-same.result i.0 common c.if-same-node.false c.if-same-octets.true in
    λ x. any_settled _ _ _ _ (c.own_and.ensures x) (any_here (λ v. g.N.NumberSet.has v.value x) s n octets i.0 same) ∙ i.4 x

pub returns-in_default-clause-found : goal.returns-in_default-clause-found
returns-in_default-clause-found g c =
    let s = c.args.store.now in
    let n = plain g.M.Mark.present c.loop-node.node in
    let octets = c.args.octets.now in
    let i = c.loop-node.invariant in
    let common = common_with s n c.name.result.now octets c.common-same.result c.name.ensures c.common-same.ensures in
    let len = same_len s n octets c.common-same.result i.0 common c.if-same-node.false in
    let goes = key_goes s n octets c.common-same.result i.0 common c.if-same-node.false c.if-same-octets.false in
    let gap = subst (λ x. GapAt (kids_of s.subs n) (get_or octets x 0) c.in_default.field-0) (len ∙ sym (name_length s n i.0)) c.in_default.ensures in
    λ x. any_settled _ _ _ _ (c.own_and-found.ensures x) (any_gap (λ v. g.N.NumberSet.has v.value x) s n octets c.in_default.field-0 i.0 goes gap) ∙ i.4 x

pub loop-node-preserved : goal.loop-node-preserved
loop-node-preserved g c =
    let s = c.args.store.now in
    let n = plain g.M.Mark.present c.loop-node.node in
    let k = plain g.M.Mark.present c.kid-node.result in
    let octets = c.args.octets.now in
    let i = c.loop-node.invariant in
    let common = common_with s n c.name.result.now octets c.common-same.result c.name.ensures c.common-same.ensures in
    let len = same_len s n octets c.common-same.result i.0 common c.if-same-node.false in
    let goes = key_goes s n octets c.common-same.result i.0 common c.if-same-node.false c.if-same-octets.false in
    let kid = subst (λ x. KidAt (kids_of s.subs n) (get_or octets x 0) c.in-Ok.place) (len ∙ sym (name_length s n i.0)) c.in-Ok.ensures in
    let longer = kid_longer s n k _ c.in-Ok.place i.0 kid c.kid-node.ensures in
    let begins = subst (λ x. take (x + 1) (name_of s.octets k) ≡ take (x + 1) octets) (sym len) (kid_begins s n k octets c.in-Ok.place i.0 goes kid c.kid-node.ensures) in (
      c.kid-node.ensures.node,
      omega (arith, longer, len),
      omega (arith, c.if-same-octets.false),
      begins,
      λ x. any_chained _ _ _ _ _ _ refl (c.own_and-found.ensures x) (any_below (λ v. g.N.NumberSet.has v.value x) s n k octets c.in-Ok.place i.0 goes kid c.kid-node.ensures) ∙ i.4 x,
      omega (arith, longer, c.tick.ensures, i.5),
    )
