use Rattle.std.proofs.Common.{◌≡◌, ◌-◌, ◌<◌, take, drop, length, subst, arith, IfSome}
use Rattle.prefix_index.specs.PlainNode.{plain_nodes}
use Rattle.prefix_index.specs.Nodes.{Built}
use Rattle.prefix_index.proofs.Building.{empty_done, node_done, above_done, apart_done}
use Rattle.prefix_index.proofs.build.+build.Goals as goal

pub build-returns-then-is_empty : goal.build-returns-then-is_empty
build-returns-then-is_empty g t c =
    let none : length c.args.entries.now ≡ 0 = grind (arith, c.is_empty.ensures, c.if-is_empty.true) in
    empty_done g.K.Key.keys g.met.K.Key.laws _ c.args.entries.now c.requires.well none

pub build_above-push_value-requires-clause-node : goal.build_above-push_value-requires-clause-node
build_above-push_value-requires-clause-node g t c =
    let keys = g.K.Key.keys in
    let laws = g.met.K.Key.laws in
    let present = g.M.Mark.present in
    let xs = c.args.rest.now in
    let z = c.count_under-zeros.result in
    let a = take z xs in
    let b = take (length xs - z) (drop z xs) in
    let old = plain_nodes present c.args.nodes.now in
    let mid = plain_nodes present c.build.new.nodes in
    let next = plain_nodes present c.build-2.new.nodes in
    let p = subst (λ o. IfSome o (λ n. Built keys old mid a n)) c.in-Some.is c.in_ok-zero.ensures in
    let q = subst (λ o. IfSome o (λ n. Built keys mid next b n)) c.in-Some-2.is c.in_ok-one.ensures in
    node_done keys laws _ _ _ c.args.key _ a b c.count_under.result _ _ c.requires.valid_key c.count_under-zeros.ensures.under c.count_under.ensures.under (omega (arith, c.if-count_under-one_part.false)) p q

pub build_above-returns : goal.build_above-returns
build_above-returns g t c =
    let keys = g.K.Key.keys in
    let laws = g.met.K.Key.laws in
    let present = g.M.Mark.present in
    let xs = c.args.rest.now in
    let z = c.count_under-zeros.result in
    let a = take z xs in
    let b = take (length xs - z) (drop z xs) in
    let old = plain_nodes present c.args.nodes.now in
    let mid = plain_nodes present c.build.new.nodes in
    let next = plain_nodes present c.build-2.new.nodes in
    let p = subst (λ o. IfSome o (λ n. Built keys old mid a n)) c.in-Some.is c.in_ok-zero.ensures in
    let q = subst (λ o. IfSome o (λ n. Built keys mid next b n)) c.in-Some-2.is c.in_ok-one.ensures in
    above_done keys laws _ _ _ _ c.args.key _ xs z _ _ _ c.count_under-zeros.ensures.within p q c.in_ok-number.ensures

pub build_apart-push_branch-requires-clause-node : goal.build_apart-push_branch-requires-clause-node
build_apart-push_branch-requires-clause-node g t c =
    let keys = g.K.Key.keys in
    let laws = g.met.K.Key.laws in
    let present = g.M.Mark.present in
    let xs = c.args.entries.now in
    let z = c.count_under-zeros.result in
    let a = take z xs in
    let b = take (length xs - z) (drop z xs) in
    let old = plain_nodes present c.args.nodes.now in
    let mid = plain_nodes present c.build.new.nodes in
    let next = plain_nodes present c.build-2.new.nodes in
    let p = subst (λ o. IfSome o (λ n. Built keys old mid a n)) c.in-Some.is c.in_ok-zero.ensures in
    let q = subst (λ o. IfSome o (λ n. Built keys mid next b n)) c.in-Some-2.is c.in_ok-one.ensures in
    node_done keys laws _ _ _ c.args.key _ a b c.count_under.result _ _ c.requires.valid_key c.count_under-zeros.ensures.under c.count_under.ensures.under (omega (arith, c.if-count_under-one_part.false)) p q

pub build_apart-returns : goal.build_apart-returns
build_apart-returns g t c =
    let keys = g.K.Key.keys in
    let laws = g.met.K.Key.laws in
    let present = g.M.Mark.present in
    let xs = c.args.entries.now in
    let z = c.count_under-zeros.result in
    let a = take z xs in
    let b = take (length xs - z) (drop z xs) in
    let old = plain_nodes present c.args.nodes.now in
    let mid = plain_nodes present c.build.new.nodes in
    let next = plain_nodes present c.build-2.new.nodes in
    let p = subst (λ o. IfSome o (λ n. Built keys old mid a n)) c.in-Some.is c.in_ok-zero.ensures in
    let q = subst (λ o. IfSome o (λ n. Built keys mid next b n)) c.in-Some-2.is c.in_ok-one.ensures in
    let some : 0 < z = grind (arith, c.if-zeros-eq0.false) in
    let others : 0 < length b = grind (arith, c.if-is_empty.false, c.is_empty.ensures) in
    apart_done keys laws _ _ _ _ c.args.key xs z c.count_under.result _ _ _ c.count_under-zeros.ensures.within c.requires.valid_key some others c.count_under-zeros.ensures.under c.count_under.ensures.under (omega (arith, c.if-count_under-one_part.false)) p q c.in_ok-number.ensures
