use Rattle.std.proofs.Common.{◌≡◌, true, ◌-◌, arith}
use Rattle.packed_names.proofs.TableLemmas.{none_on, other_hash, none_found, none_at_first, place_at, near_at}
use Rattle.packed_names.proofs.table.find.Goals as goal
use Rattle.packed_names.proofs.table.find.Goals.{then-suffix-hash+else-has_name, else-suffix-hash}

pub loop-left-init : goal.loop-left-init
loop-left-init c = record {
  inside = c.bucket_head-left.ensures.order;
  others = none_at_first c.args.key c.args.heads.now c.args.suffixes.now c.args.octets.now c.args.hash c.bucket_head-left.result c.requires.table c.requires.hash c.bucket_head-left.ensures;
}

pub returns-then-has_name-clause-place : goal.returns-then-has_name-clause-place
returns-then-has_name-clause-place c = place_at c.args.key c.args.heads.now c.args.suffixes.now _ c.args.octets.now (c.loop-left.left - 1) c.requires.table (omega (arith, c.loop-left.invariant.inside)) (c.has_name.ensures.0 c.if-has_name.true)

pub returns-then-has_name-clause-near : goal.returns-then-has_name-clause-near
returns-then-has_name-clause-near c = near_at c.args.key c.args.heads.now c.args.suffixes.now _ (c.loop-left.left - 1) c.requires.table (omega (arith, c.loop-left.invariant.inside))

pub loop-left-preserved : goal.loop-left-preserved
loop-left-preserved c = record {
  inside = omega (arith, c.left_before-left.ensures.order, c.loop-left.invariant.inside);
  others = none_on c.args.key c.args.heads.now c.args.suffixes.now _ c.args.octets.now c.args.hash c.loop-left.left c.left_before-left.result c.requires.table c.requires.hash (omega arith) c.loop-left.invariant.inside
      (elim c.if-suffix-hash.branch [
        | then-suffix-hash+else-has_name w ↦ λ e. let yes : w.has_name.result ≡ true = w.has_name.ensures.1 e in cc
        | else-suffix-hash w ↦ other_hash c.args.key c.args.heads.now c.args.suffixes.now _ c.args.octets.now c.args.hash (c.loop-left.left - 1) c.requires.table (omega (arith, c.loop-left.invariant.inside)) c.requires.hash w.if-suffix-hash.false
      ])
      c.left_before-left.ensures c.loop-left.invariant.others;
}

pub returns-clause-place : goal.returns-clause-place
returns-clause-place c = none_found c.args.key c.args.heads.now c.args.suffixes.now c.args.octets.now c.loop-left.left c.requires.table c.requires.wire c.loop-left-test.false c.loop-left.invariant.others
