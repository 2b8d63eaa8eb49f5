use Rattle.std.proofs.Common.{◌≡◌, List, ◌<◌, ◌++◌, ◌∷◌, [], length, get_or, ap, arith, length-append}
use Rattle.packed_lists.specs.Stored.{PlainStored}
use Rattle.packed_lists.proofs.Joined.{whole_rises, last_start, as_many_starts}
use Rattle.packed_lists.proofs.row_list.RowList.len.Goals as goal

pub get-requires : goal.get-requires
get-requires c =
    let bs = c.self.inside.blocks in
    omega (arith, ap length c.self.invariant.places, as_many_starts 0 (bs ++ c.self.inside.tail ∷ []), length-append bs (c.self.inside.tail ∷ []), c.len.ensures.len)

pub overflow_add-result : goal.overflow_add-result
overflow_add-result c =
    let bs : List (List PlainStored) = c.self.inside.blocks in
    let l = last_start c.self.inside.firsts c.self.inside.starts bs c.self.inside.tail c.self.inside.next c.len.result c.self.invariant (omega (arith, c.len.ensures.len)) in
    let within : c.len.result < length c.self.inside.starts = omega (arith, ap length c.self.invariant.places, as_many_starts 0 (bs ++ c.self.inside.tail ∷ []), length-append bs (c.self.inside.tail ∷ []), c.len.ensures.len) in
    let got : c.get.result ≡ get_or c.self.inside.starts c.len.result 0 = c.get.ensures in
    omega (arith, l.0, l.2, l.3, got, c.len-2.ensures)

pub returns-clause-len : goal.returns-clause-len
returns-clause-len c =
    let bs : List (List PlainStored) = c.self.inside.blocks in
    let l = last_start c.self.inside.firsts c.self.inside.starts bs c.self.inside.tail c.self.inside.next c.len.result c.self.invariant (omega (arith, c.len.ensures.len)) in
    let got : c.get.result ≡ get_or c.self.inside.starts c.len.result 0 = c.get.ensures in
    omega (arith, l.0, l.1, got, c.len-2.ensures, ap (λ v. length v.rows) c.self.view_is)

pub returns-clause-rising : goal.returns-clause-rising
returns-clause-rising c =
    whole_rises c.self.inside.firsts c.self.inside.starts (c.self.inside.blocks ++ c.self.inside.tail ∷ []) c.args.self.now c.self.inside.next c.self.view_is c.self.invariant
