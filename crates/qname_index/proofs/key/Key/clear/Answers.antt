use Rattle.std.proofs.Common.{arith}
use Rattle.std.proofs.lemmas.List.{drop_all}
use Rattle.qname_index.proofs.key.Key.clear.Goals as goal

pub returns : goal.returns
returns c =
    let told = c.self.told in
    drop_all 255 c.self.inside.octets (omega arith)
