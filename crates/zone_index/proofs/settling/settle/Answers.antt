use Rattle.std.proofs.Common.{◌≡◌, ℕ, List, ap, subst}
use Rattle.std.specs.Prelude.{IfOk}
use Rattle.zone_index.proofs.Settled.{is_nothing, is_something, none_put, some_put}
use Rattle.zone_index.specs.Placed.{rows_by}
use Rattle.zone_index.specs.Places.{PlainPlaces}
use Rattle.zone_index.proofs.settling.settle.Goals as goal

pub returns-then-is_empty : goal.returns-then-is_empty
returns-then-is_empty c =
    subst (λ (p : PlainPlaces). IfOk c.take.result (λ new. new ≡ p))
    (none_put c.args.index c.args.place.now (rows_by c.args.numbers.now c.args.rows.now.rows)
    (ap (λ (l : List ℕ). rows_by l c.args.rows.now.rows) (is_nothing c.args.numbers.now c.is_empty.result c.is_empty.ensures c.if-is_empty.true)))
    c.take.ensures

pub returns : goal.returns
returns c =
    subst (λ (p : PlainPlaces). IfOk c.put.result (λ new. new ≡ p))
    (some_put c.args.index c.args.place.now c.args.numbers.now c.in_ok-does.does (rows_by c.args.numbers.now c.args.rows.now.rows)
    (is_something c.args.numbers.now c.is_empty.result c.is_empty.ensures c.if-is_empty.false) c.requires.numbers c.in_ok-does.ensures)
    c.put.ensures
