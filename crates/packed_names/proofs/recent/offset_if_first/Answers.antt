use Rattle.std.proofs.Common.{◌≡◌, length, true, nat_eq, eq-eqb}
use Rattle.packed_names.proofs.RecentLemmas.{first_name_found, first_name_near}
use Rattle.packed_names.proofs.recent.offset_if_first.Goals as goal

pub returns-then-is_same-clause-place : goal.returns-then-is_same-clause-place
returns-then-is_same-clause-place c =
    first_name_found c.args.names.now _ c.args.octets.now c.requires.names c.requires.wire c.requires.label (λ none. let empty : nat_eq (length c.args.names.now) 0 ≡ true = eq-eqb (length c.args.names.now) 0 none in cc) (c.is_same.ensures.0 c.if-is_same.true) c.if-name.false

pub returns-then-is_same-clause-near : goal.returns-then-is_same-clause-near
returns-then-is_same-clause-near c =
    first_name_near c.args.names.now _ c.requires.names (λ none. let empty : nat_eq (length c.args.names.now) 0 ≡ true = eq-eqb (length c.args.names.now) 0 none in cc) c.if-name.false
