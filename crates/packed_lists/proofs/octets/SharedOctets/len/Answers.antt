use Rattle.std.proofs.Common.{◌≡◌, ◌+◌, ◌*◌, length, ap, sym, arith, ◌∙◌}
use Rattle.packed_lists.proofs.SharedBlocks.{length_all}
use Rattle.packed_lists.proofs.octets.SharedOctets.len.Goals as goal

pub returns-clause-len : goal.returns-clause-len
returns-clause-len c =
    let e : length c.args.self.now ≡ length c.self.inside.blocks * 4096 + length c.self.inside.tail.items = ap length (sym c.self.view_is) ∙ length_all 4096 (λ v. v.items) c.self.inside.blocks c.self.inside.tail.items c.self.invariant.0 in
    omega (arith, e, c.len.ensures.len, c.len-2.ensures)

pub returns-clause-few : goal.returns-clause-few
returns-clause-few c =
    let e : length c.args.self.now ≡ length c.self.inside.blocks * 4096 + length c.self.inside.tail.items = ap length (sym c.self.view_is) ∙ length_all 4096 (λ v. v.items) c.self.inside.blocks c.self.inside.tail.items c.self.invariant.0 in
    omega (arith, e, c.self.invariant.1, c.self.invariant.2)
