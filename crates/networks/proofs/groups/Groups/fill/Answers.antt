use Rattle.std.proofs.Common.{◌≡◌, ◌*◌, ◌-◌, ◌%◌, ◌^◌, arith}
use Rattle.std.proofs.lemmas.Nat.{shl_whole}
use Rattle.networks.proofs.GroupLemmas.{fill_is, filled_fits}
use Rattle.networks.proofs.groups.Groups.fill.Goals as goal

pub overflow_add-result : goal.overflow_add-result
overflow_add-result c =
    let kept : (c.args.self.number * 2 ^ (128 - 16 * c.args.self.count)) % 2 ^ 128 ≡ c.args.self.number * 2 ^ (128 - 16 * c.args.self.count) = shl_whole c.args.self.number (16 * c.args.self.count) (128 - 16 * c.args.self.count) 128 c.requires.before.fits (omega arith) in
    omega (arith, kept, filled_fits c.args.self.number c.args.behind.number c.args.self.count c.args.behind.count c.requires.before.fits c.requires.behind.fits (omega arith))

pub returns : goal.returns
returns c = fill_is c.args.self c.args.behind c.requires.before (omega arith)
