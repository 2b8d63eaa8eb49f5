use Rattle.std.proofs.Common.{◌≡◌, ◌<◌, ◌+◌, ◌-◌, ◌/◌, drop, subst, arith}
use Rattle.std.specs.List.{AllByRecursion}
use Rattle.octet_trie.specs.Nodes.{kids_of}
use Rattle.octet_trie.specs.Plain.{plain}
use Rattle.octet_trie.proofs.Searching.{found_below, found_above, kids_count}
use Rattle.octet_trie.proofs.find.find_kid.Goals as goal

pub loop-low-preserved-then-kid-symbol : goal.loop-low-preserved-then-kid-symbol
loop-low-preserved-then-kid-symbol g c =
    let i = c.loop-low.invariant in
    let middle = c.loop-low.low + (c.loop-low.high - c.loop-low.low) / 2 in
    let below = found_below c.args.store.now (plain g.M.Mark.present c.args.node.now) (plain g.M.Mark.present c.kid-kid.result) middle c.args.symbol c.requires (omega (arith, c.loop-low-test.true, i.1)) c.kid-kid.ensures c.if-kid-symbol.true in
    (omega (arith, c.loop-low-test.true), i.1, below, i.3)

pub loop-low-preserved : goal.loop-low-preserved
loop-low-preserved g c =
    let i = c.loop-low.invariant in
    let middle = c.loop-low.low + (c.loop-low.high - c.loop-low.low) / 2 in
    let above = found_above c.args.store.now (plain g.M.Mark.present c.args.node.now) (plain g.M.Mark.present c.kid-kid.result) middle c.args.symbol c.requires (omega (arith, c.loop-low-test.true, i.1)) c.kid-kid.ensures c.if-kid-symbol-2.true in
    (omega (arith, c.loop-low-test.true), omega (arith, c.loop-low-test.true, i.1), i.2, above)

pub returns : goal.returns
returns g c =
    let i = c.loop-low.invariant in
    let kids = kids_of c.args.store.now.subs (plain g.M.Mark.present c.args.node.now) in
    let same : c.loop-low.high ≡ c.loop-low.low = omega (arith, c.loop-low-test.false, i.0) in
    let above = subst (λ place. AllByRecursion (λ k. c.args.symbol < k.symbol) (drop place kids)) same i.3 in
    record { within = omega (arith, c.loop-low-test.false, i.0, i.1, kids_count c.args.store.now (plain g.M.Mark.present c.args.node.now) c.requires); below = i.2; above = above }
