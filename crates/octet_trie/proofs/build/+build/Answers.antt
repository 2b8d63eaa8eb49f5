use Rattle.std.proofs.Common.{◌≡◌, ◌+◌, ◌-◌, ◌*◌, ◌<◌, [], length, take, drop, map, get_or, IfSome, refl, ap, subst, arith, rules}
use Rattle.std.proofs.lemmas.List.{length-take-le}
use Rattle.octet_trie.specs.Listed.{entries_from}
use Rattle.octet_trie.specs.Made.{IsMade, IsKidMade, AreKidsMade}
use Rattle.octet_trie.specs.Plain.{plain}
use Rattle.octet_trie.specs.Trie.{found_entry}
use Rattle.octet_trie.proofs.Building.{named, stretched, kid_made, kids_none, kids_more, few_made, made_node, node_made}
use Rattle.octet_trie.proofs.Copying.{all_keyed}
use Rattle.octet_trie.proofs.Orders.{all_at, listed_part}
use Rattle.octet_trie.proofs.Stretches.{length_stretch}
use Rattle.octet_trie.proofs.build.+build.Goals as goal

pub build-own_value-exact-requires-clause-begin : goal.build-own_value-exact-requires-clause-begin
build-own_value-exact-requires-clause-begin g t c =
    (named g.M.Mark.present c.args.entries.now c.index-entries-0.result c.index-entries-entries.result c.args.top.now c.common-len.result c.requires.some c.requires.listed c.requires.begin c.index-entries-0.is c.index-entries-entries.is c.common-len.ensures).begin

pub build-own_value-wild-requires-clause-begin : goal.build-own_value-wild-requires-clause-begin
build-own_value-wild-requires-clause-begin g t c =
    (named g.M.Mark.present c.args.entries.now c.index-entries-0.result c.index-entries-entries.result c.args.top.now c.common-len.result c.requires.some c.requires.listed c.requires.begin c.index-entries-0.is c.index-entries-entries.is c.common-len.ensures).begin

pub build-build_kids-requires : goal.build-build_kids-requires
build-build_kids-requires g t c κs within =
    let nm = named g.M.Mark.present c.args.entries.now c.index-entries-0.result c.index-entries-entries.result c.args.top.now c.common-len.result c.requires.some c.requires.listed c.requires.begin c.index-entries-0.is c.index-entries-entries.is c.common-len.ensures in
    let name = take c.common-len.result c.index-entries-0.result.key.now in
    let less : 3 * (300 - length name) + 1 < 3 * (300 - length c.args.top.now) + 2 = omega (arith, nm.long) in
    search (rules, nm.begin, nm.short, less)

pub build-push_all-requires : goal.build-push_all-requires
build-push_all-requires g t c =
    let made = subst (λ o. IfSome o (λ k. AreKidsMade g.M.Mark.present c.args.store.now c.build_kids.new.store (take c.common-len.result c.index-entries-0.result.key.now) (entries_from (c.count-behind.result + c.count.result) c.args.entries.now) [] k.items)) c.in-Some.is c.in_ok-kids.ensures in
    all_keyed g.M.Mark.present c.build_kids.new.store c.place_key.new.into _ _ c.in_ok-key.key c.in-Some.kids.items c.in_ok-key.ensures made.nodes

pub build-overflow_cast-len-2 : goal.build-overflow_cast-len-2
build-overflow_cast-len-2 g t c =
    let made = subst (λ o. IfSome o (λ k. AreKidsMade g.M.Mark.present c.args.store.now c.build_kids.new.store (take c.common-len.result c.index-entries-0.result.key.now) (entries_from (c.count-behind.result + c.count.result) c.args.entries.now) [] k.items)) c.in-Some.is c.in_ok-kids.ensures in
    omega (arith, few_made g.M.Mark.present c.build_kids.new.store _ c.in-Some.kids.items made.under, c.len.ensures)

pub build-returns : goal.build-returns
build-returns g t c =
    let p = g.M.Mark.present in
    let nm = named g.M.Mark.present c.args.entries.now c.index-entries-0.result c.index-entries-entries.result c.args.top.now c.common-len.result c.requires.some c.requires.listed c.requires.begin c.index-entries-0.is c.index-entries-entries.is c.common-len.ensures in
    let made = subst (λ o. IfSome o (λ k. AreKidsMade g.M.Mark.present c.args.store.now c.build_kids.new.store (take c.common-len.result c.index-entries-0.result.key.now) (entries_from (c.count-behind.result + c.count.result) c.args.entries.now) [] k.items)) c.in-Some.is c.in_ok-kids.ensures in
    let size : c.len.result ≡ length c.in-Some.kids.items = omega (arith, c.len.ensures, c.in-Some.kids.ok) in
    let node = made_node p c.in_ok-key.key c.common-len.result c.args.symbol c.len-place.result c.len.result (length c.in-Some.kids.items) c.own_value-exact.result c.own_value-wild.result (plain p c.bare.result) (plain p c.with_own.result) (plain p c.with_own-node.result) (plain p c.with_kids.result) c.bare.ensures c.with_own.ensures c.with_own-node.ensures c.with_kids.ensures size in
    node_made p c.args.store.now c.build_kids.new.store c.place_key.new.into c.push_all.new.into c.args.entries.now c.args.top.now _ c.common-len.result c.args.symbol c.in_ok-key.key c.len-place.result c.count-behind.result (c.count-behind.result + c.count.result) c.own_value-exact.result c.own_value-wild.result c.in-Some.kids.items (plain p c.with_kids.result)
    c.ranges.symbol.fits nm made c.in_ok-key.ensures c.own_value-exact.ensures.parts c.count-behind.ensures c.own_value-wild.ensures.parts (ap (λ k. c.count-behind.result + k) c.count.ensures) c.len-place.ensures.len c.in_ok-push_all.ensures node

pub build_kid-build-requires : goal.build_kid-build-requires
build_kid-build-requires g t c κs within =
    let es = c.args.entries.now in
    let d = c.index-entries-number.result in
    let number = c.args.number in
    let last = c.last_with-end.result in
    let a = (get_or es number d).key.now in
    let name = c.args.name.now in
    let longer : length name < length a = omega (arith, c.if-first-name.false) in
    let begin = stretched g.M.Mark.present es d name number last (last + 1 - number) _ c.requires.listed c.requires.begin c.requires.within longer refl c.last_with-end.ensures.from c.last_with-end.ensures.has refl in
    let listed = listed_part g.M.Mark.present es number (last + 1 - number) c.requires.listed in
    let some : 0 < length (take (last + 1 - number) (drop number es)) = omega (arith, length_stretch es number (last + 1 - number) (omega (arith, c.last_with-end.ensures.has.within, c.last_with-end.ensures.from)), c.last_with-end.ensures.from) in
    let size : length (take (length name + 1) a) ≡ length name + 1 = length-take-le (length name + 1) a (omega (arith, longer)) in
    let less : 3 * (300 - length (take (length name + 1) a)) + 2 < 3 * (300 - length name) = omega (arith, size, c.requires.short) in
    search (rules, begin, listed, some, less)

pub build_kid-returns-in-Some-clause-made : goal.build_kid-returns-in-Some-clause-made
build_kid-returns-in-Some-clause-made g t c =
    let p = g.M.Mark.present in
    let es = c.args.entries.now in
    let d = c.index-entries-number.result in
    let number = c.args.number in
    let last = c.last_with-end.result in
    let a = (get_or es number d).key.now in
    let name = c.args.name.now in
    let longer : length name < length a = omega (arith, c.if-first-name.false) in
    let made = subst (λ o. IfSome o (λ k. IsMade c.args.store.now c.build.new.store (take (length name + 1) a) (get_or a (length name) 0) (map found_entry (take (last + 1 - number) (drop number es))) (plain p k))) c.in-Some.is c.in_ok-node.ensures in
    let begin_a : take (length name) a ≡ name = all_at (λ e. take (length name) e.key.now ≡ name) es number d c.requires.within c.requires.begin in
    kid_made c.args.store.now c.build.new.store name a _ c.args.low es number (last + 1) (last + 1 - number) (plain p c.in-Some.node) made begin_a longer refl (omega (arith, c.if-from-low.false, c.from.ensures)) (omega (arith, c.last_with-end.ensures.from))

pub build_kids-loop-next-init : goal.build_kids-loop-next-init
build_kids-loop-next-init g t c =
    let both = kids_none g.M.Mark.present c.args.store.now c.args.name.now (entries_from c.args.number c.args.entries.now) c.new-kids.result.items c.new-kids.ensures.items in
    record { made = both.0; below = both.1 }

pub build_kids-loop-next-preserved : goal.build_kids-loop-next-preserved
build_kids-loop-next-preserved g t c =
    let p = g.M.Mark.present in
    let es = c.args.entries.now in
    let made = subst (λ o. IfSome o (λ k. IsKidMade c.loop-next.store c.build_kid.new.store c.args.name.now c.loop-next.low (entries_from c.loop-next.next es) (entries_from k.end es) (plain p k.node))) c.in-Some.is c.in_ok-kid.ensures.made in
    let both = kids_more p c.args.store.now c.loop-next.store c.build_kid.new.store c.args.name.now c.loop-next.low (c.from-low.result + 1) _ _ _ c.loop-next.kids.items c.push.new.self.items c.in-Some.kid.node c.loop-next.invariant.made c.loop-next.invariant.below made c.in_ok-push.ensures.items (omega (arith, c.from-low.ensures)) in
    record { made = both.0; below = both.1 }
