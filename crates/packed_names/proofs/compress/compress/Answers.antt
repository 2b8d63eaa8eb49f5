use Rattle.std.proofs.lemmas.Result.{on_ok_weaker}
use Rattle.dns_name.specs.Wire.{labels_in}
use Rattle.packed_names.specs.Table.{suffix_places}
use Rattle.packed_names.proofs.CompressLemmas.{CompressingRest-label, CompressingRest-pointer, Compressing-root}
use Rattle.packed_names.proofs.compress.compress.Goals as goal

pub returns-in_default-clause-octets : goal.returns-in_default-clause-octets
returns-in_default-clause-octets c =
    on_ok_weaker c.push.result
    (λ e. (Compressing-root c.args.key (suffix_places c.args.suffixes.now.items) c.args.out.now (labels_in c.args.octets.now) c.loop-count.heads.items c.loop-count.suffixes.items c.loop-count.out c.push.new.self (labels_in c.loop-count.rest.now) c.loop-count.invariant.compressing c.in_default.ensures e).octets)
    c.push.ensures.ok

pub returns-in_default-clause-places : goal.returns-in_default-clause-places
returns-in_default-clause-places c =
    on_ok_weaker c.push.result
    (λ e. (Compressing-root c.args.key (suffix_places c.args.suffixes.now.items) c.args.out.now (labels_in c.args.octets.now) c.loop-count.heads.items c.loop-count.suffixes.items c.loop-count.out c.push.new.self (labels_in c.loop-count.rest.now) c.loop-count.invariant.compressing c.in_default.ensures e).places_are)
    c.push.ensures.ok

pub returns-in-Some-2-clause-octets : goal.returns-in-Some-2-clause-octets
returns-in-Some-2-clause-octets c =
    let found = rw c.in-Some-2.is at c.in_ok-offset.ensures.found in
    on_ok_weaker c.write_pointer.result
    (λ e. (CompressingRest-pointer c.args.key (suffix_places c.args.suffixes.now.items) c.args.out.now c.args.octets.now c.loop-count.heads.items c.loop-count.suffixes.items c.find_or_insert.new.suffixes.items c.loop-count.out c.write_pointer.new.out c.loop-count.rest.now c.in-Some.count c.in-Some.others.now c.in-Some-2.offset c.loop-count.invariant c.in-Some.ensures found.0 found.1 e).octets)
    c.write_pointer.ensures.ok

pub returns-in-Some-2-clause-places : goal.returns-in-Some-2-clause-places
returns-in-Some-2-clause-places c =
    let found = rw c.in-Some-2.is at c.in_ok-offset.ensures.found in
    on_ok_weaker c.write_pointer.result
    (λ e. (CompressingRest-pointer c.args.key (suffix_places c.args.suffixes.now.items) c.args.out.now c.args.octets.now c.loop-count.heads.items c.loop-count.suffixes.items c.find_or_insert.new.suffixes.items c.loop-count.out c.write_pointer.new.out c.loop-count.rest.now c.in-Some.count c.in-Some.others.now c.in-Some-2.offset c.loop-count.invariant c.in-Some.ensures found.0 found.1 e).places_are)
    c.write_pointer.ensures.ok

pub loop-count-preserved : goal.loop-count-preserved
loop-count-preserved c =
    let none = rw c.in_default-2.is at c.in_ok-offset.ensures.found in
    CompressingRest-label c.args.key (suffix_places c.args.suffixes.now.items) c.args.out.now c.args.octets.now c.loop-count.heads.items c.find_or_insert.new.heads.items c.loop-count.suffixes.items c.find_or_insert.new.suffixes.items c.loop-count.out c.append.new.self c.loop-count.rest.now c.in-Some.count c.in-Some.others.now c.len.result c.loop-count.invariant c.in-Some.ensures c.in_ok-offset.ensures.table none.0 none.1 c.len.ensures c.in_ok-append.ensures.ok
