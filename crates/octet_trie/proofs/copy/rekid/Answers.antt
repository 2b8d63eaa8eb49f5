use Rattle.std.proofs.Common.{◌++◌, ◌∙◌, arith}
use Rattle.octet_trie.specs.Edits.{subs_if, with_others}
use Rattle.octet_trie.specs.Nodes.{kids_of}
use Rattle.octet_trie.specs.Plain.{plain}
use Rattle.octet_trie.proofs.Searching.{rekidded, few_others, others_count, subs_if_after, node_if_after, one_if}
use Rattle.octet_trie.proofs.Numbers.{extends_subs}
use Rattle.octet_trie.proofs.copy.rekid.Goals as goal

pub push_some-requires : goal.push_some-requires
push_some-requires g c = node_if_after g.M.Mark.present c.args.store.now c.copy.new.store c.args.kid (extends_subs _ _ _ c.in_ok-copy.ensures) c.requires.kid

pub overflow_cast-count : goal.overflow_cast-count
overflow_cast-count g c =
    let p = g.M.Mark.present in
    let old = c.args.store.now in
    let n = plain p c.args.node.now in
    let mids = subs_if p c.copy.new.store c.args.kid in
    let stored = rekidded old c.copy.new.store c.push_some.new.store c.copy-2.new.store n c.args.place c.args.rest c.from.result mids c.requires.node c.requires.order c.requires.within c.from.ensures c.in_ok-copy.ensures c.in_ok-push_some.ensures c.in_ok-copy-2.ensures in
    let count = others_count old c.copy-2.new.store (with_others (kids_of old.subs n) c.args.place mids c.args.rest) c.len-kids.result c.len.result stored c.len-kids.ensures.len c.len.ensures.len in
    let few = few_others old n c.args.place c.args.rest mids c.requires.node c.requires.order c.requires.within (one_if p c.copy.new.store c.args.kid) in
    omega (arith, count, few)

pub returns : goal.returns
returns g c =
    let p = g.M.Mark.present in
    let old = c.args.store.now in
    let n = plain p c.args.node.now in
    let mids = subs_if p c.copy.new.store c.args.kid in
    let first = rekidded old c.copy.new.store c.push_some.new.store c.copy-2.new.store n c.args.place c.args.rest c.from.result mids c.requires.node c.requires.order c.requires.within c.from.ensures c.in_ok-copy.ensures c.in_ok-push_some.ensures c.in_ok-copy-2.ensures in
    let same = subs_if_after p old c.copy.new.store c.args.kid (extends_subs _ _ _ c.in_ok-copy.ensures) c.requires.kid in
    let kids = with_others (kids_of old.subs n) c.args.place (subs_if p old c.args.kid) c.args.rest in
    let stored = first ∙ (λ i. record { octets = old.octets; subs = old.subs ++ with_others (kids_of old.subs n) c.args.place (same i) c.args.rest }) in
    let count = others_count old c.copy-2.new.store kids c.len-kids.result c.len.result stored c.len-kids.ensures.len c.len.ensures.len in
    record {
      stored = stored;
      node = c.with_kids.ensures ∙ (λ i. record n { kids = c.len-kids.ensures.len i; count = count i });
    }
