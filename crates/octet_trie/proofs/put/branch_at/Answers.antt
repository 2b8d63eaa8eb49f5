use Rattle.std.proofs.Common.{◌<◌, refl, subst, ◌∙◌}
use Rattle.octet_trie.specs.Nodes.{name_of}
use Rattle.octet_trie.specs.Plain.{plain}
use Rattle.octet_trie.proofs.Putting.{branch_is}
use Rattle.octet_trie.proofs.put.branch_at.Goals as goal

pub returns : goal.returns
returns g c =
    let p = g.M.Mark.present in
    let n = plain p c.args.node.now in
    let small = subst (λ o. o < 256) c.octet-symbol.ensures c.octet-symbol.type_inv in
    branch_is c.args.store.now c.push.new.self n (plain p c.with_symbol.result) (plain p c.branch-node.result) c.args.len (name_of c.args.store.now.octets n) c.requires.node c.requires.shorter refl small (c.with_symbol.ensures ∙ (λ i. record n { symbol = c.octet-symbol.ensures i })) c.in_ok-push.ensures c.len-kids.result c.len-kids.ensures.len c.branch-node.ensures
