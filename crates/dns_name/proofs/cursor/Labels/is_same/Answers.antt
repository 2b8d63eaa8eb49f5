use Rattle.dns_name.proofs.WireLemmas.{same_letters}
use Rattle.dns_name.proofs.AlikeLemmas.{tells_same}
use Rattle.dns_name.proofs.cursor.Labels.is_same.Goals as goal

pub returns : goal.returns
returns c =
    let same = same_letters c.args.self.now c.args.name.now c.octets.ensures.name c.octets-2.ensures.name in
    let test = rw (c.octets.ensures.octets, c.octets-2.ensures.octets) at c.are_alike.ensures.test in
    tells_same c.args.self.now c.args.name.now _ ((λ t. same.0 (test.0 t), λ e. test.1 (same.1 e)))
