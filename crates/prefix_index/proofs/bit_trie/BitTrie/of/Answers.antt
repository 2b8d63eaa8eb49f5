use Rattle.std.proofs.Common.{◌≡◌, true, sym, ap, ◌∙◌, subst, IfSome}
use Rattle.trie_keys.proofs.Entries.{all_map}
use Rattle.prefix_index.specs.Made.{IsKey}
use Rattle.prefix_index.specs.Nodes.{Built}
use Rattle.prefix_index.specs.PlainNode.{plain_nodes}
use Rattle.prefix_index.specs.Trie.{ArePresent, AreValid}
use Rattle.prefix_index.proofs.Growing.{well_entries}
use Rattle.prefix_index.proofs.Keying.{keyed_present, made_of}
use Rattle.prefix_index.proofs.Permuting.{all_moved}
use Rattle.prefix_index.proofs.Plain.{empty_trie}
use Rattle.prefix_index.proofs.bit_trie.BitTrie.of.Goals as goal

pub build-requires-clause-well : goal.build-requires-clause-well
build-requires-clause-well g c = (empty_trie g.K.Key.keys g.met.K.Key.laws _ (ap (plain_nodes g.M.Mark.present) c.new-nodes.ensures)).well

pub build-requires-clause-valid : goal.build-requires-clause-valid
build-requires-clause-valid g c =
    let keys = g.K.Key.keys in
    subst (λ es. AreValid keys es) (sym c.deref.ensures.value)
    (all_moved (λ e. keys.valid e.0 ≡ true) _ _ c.in_ok-sort_by.ensures.permutation (all_map (λ e. IsKey keys e.0) (λ e. keys.valid e.0 ≡ true) _ (λ e k. k.valid) c.in_ok-keyed.ensures.keys))

pub build-requires-clause-present : goal.build-requires-clause-present
build-requires-clause-present g c =
    let present = g.M.Mark.present in
    subst (λ es. ArePresent present es) (sym c.deref.ensures.value)
    (all_moved (λ e. present e.1.mark ≡ true) _ _ c.in_ok-sort_by.ensures.permutation
    (subst (λ es. ArePresent present es) (sym c.in_ok-keyed.ensures.all) (keyed_present g.K.Key.from present c.args.entries.now c.requires)))

pub invariant_of-result : goal.invariant_of-result
invariant_of-result g c =
    let keys = g.K.Key.keys in
    let old = plain_nodes g.M.Mark.present c.new-nodes.result in
    let new = plain_nodes g.M.Mark.present c.build.new.nodes in
    let q = subst (λ o. IfSome o (λ n. Built keys old new c.deref.result.now n)) c.in-Some.is c.in_ok-root.ensures in
    record { well = q.extends.well; within = q.within; entries = well_entries keys g.met.K.Key.laws new c.in-Some.root q.extends.well }

pub returns : goal.returns
returns g c =
    let keys = g.K.Key.keys in
    let old = plain_nodes g.M.Mark.present c.new-nodes.result in
    let new = plain_nodes g.M.Mark.present c.build.new.nodes in
    let q = subst (λ o. IfSome o (λ n. Built keys old new c.deref.result.now n)) c.in-Some.is c.in_ok-root.ensures in
    made_of keys g.K.Key.from c.args.entries.now _ _ _ c.in_ok-keyed.ensures.all c.in_ok-sort_by.ensures.permutation c.in_ok-keyed.ensures.keys (q.list ∙ c.deref.ensures.value)
    (well_entries keys g.met.K.Key.laws new c.in-Some.root q.extends.well)
