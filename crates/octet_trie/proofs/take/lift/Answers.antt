use Rattle.std.proofs.Common.{◌≡◌, Bool, false, cond, Some, None, ap, arith}
use Rattle.octet_trie.specs.Plain.{plain}
use Rattle.octet_trie.proofs.Taking.{lifted_kid}
use Rattle.octet_trie.proofs.take.lift.Goals as goal

missing : {V : Type 0} (b : Bool) (v : V) → b ≡ false → cond b (Some v) None ≡ None
missing b v e = ap (λ x. cond x (Some v) None) e

pub returns : goal.returns
returns g c =
    let p = g.M.Mark.present in
    let n = c.args.node.now in
    let exact : p n.exact_mark ≡ false = cc in
    let wild : p n.wild_mark ≡ false = cc in
    lifted_kid c.args.store.now (plain p n) (plain p c.kid-kid.result) (plain p c.with_symbol.result) c.requires (missing _ _ exact) (missing _ _ wild) (omega (arith, c.if-node-gt1.false, c.if-node-eq0.false)) c.kid-kid.ensures c.with_symbol.ensures
