use Rattle.std.proofs.Common.{map, arith}
use Rattle.std.proofs.lemmas.List.{length-map}
use Rattle.packed_lists.specs.Keyed.{PlainKeyed}
use Rattle.packed_lists.specs.KeysSeen.{keyed_seen}
use Rattle.zone_index.proofs.RowsApart.{alone_distinct}
use Rattle.zone_index.proofs.repeats.is_run_distinct.Goals as goal

pub returns-then-run-le1 : goal.returns-then-run-le1
returns-then-run-le1 c = λ h.
    alone_distinct (map (λ (k : PlainKeyed). k.number) (map keyed_seen c.args.run.now)) c.args.rows.now.rows
    (omega (arith, c.if-run-le1.true, length-map (map keyed_seen c.args.run.now) (λ (k : PlainKeyed). k.number), length-map c.args.run.now keyed_seen))
