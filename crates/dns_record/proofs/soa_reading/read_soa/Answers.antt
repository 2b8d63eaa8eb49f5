use Rattle.std.proofs.Common.{arith}
use Rattle.dns_record.specs.declared.soa.Soa.{Soa}
use Rattle.dns_record.specs.Number.{AreOctets}
use Rattle.dns_record.proofs.SoaLemmas.{NamesStand, names_stand, first_name_is, second_name_is, soa_read, soa_spelled}
use Rattle.dns_record.proofs.soa_reading.read_soa.Goals as goal

pub read_name-requires : goal.read_name-requires
read_name-requires c = first_name_is c.args.rdata.now c.requires

pub read_name-requires-2 : goal.read_name-requires-2
read_name-requires-2 c = second_name_is c.args.rdata.now c.in_ok-mname.mname c.in_ok-mname.second c.requires c.in_ok-mname.ensures

pub u32_at-requires : goal.u32_at-requires
u32_at-requires c = omega (arith, (names_stand c.args.rdata.now c.in_ok-mname.mname c.in_ok-rname.rname c.in_ok-mname.second c.in_ok-rname.numbers c.requires c.in_ok-mname.ensures c.in_ok-rname.ensures).long)

pub overflow_add-numbers : goal.overflow_add-numbers
overflow_add-numbers c = omega (arith, (names_stand c.args.rdata.now c.in_ok-mname.mname c.in_ok-rname.rname c.in_ok-mname.second c.in_ok-rname.numbers c.requires c.in_ok-mname.ensures c.in_ok-rname.ensures).long)

pub u32_at-requires-2 : goal.u32_at-requires-2
u32_at-requires-2 c = omega (arith, (names_stand c.args.rdata.now c.in_ok-mname.mname c.in_ok-rname.rname c.in_ok-mname.second c.in_ok-rname.numbers c.requires c.in_ok-mname.ensures c.in_ok-rname.ensures).long)

pub overflow_add-numbers-2 : goal.overflow_add-numbers-2
overflow_add-numbers-2 c = omega (arith, (names_stand c.args.rdata.now c.in_ok-mname.mname c.in_ok-rname.rname c.in_ok-mname.second c.in_ok-rname.numbers c.requires c.in_ok-mname.ensures c.in_ok-rname.ensures).long)

pub u32_at-requires-3 : goal.u32_at-requires-3
u32_at-requires-3 c = omega (arith, (names_stand c.args.rdata.now c.in_ok-mname.mname c.in_ok-rname.rname c.in_ok-mname.second c.in_ok-rname.numbers c.requires c.in_ok-mname.ensures c.in_ok-rname.ensures).long)

pub overflow_add-numbers-3 : goal.overflow_add-numbers-3
overflow_add-numbers-3 c = omega (arith, (names_stand c.args.rdata.now c.in_ok-mname.mname c.in_ok-rname.rname c.in_ok-mname.second c.in_ok-rname.numbers c.requires c.in_ok-mname.ensures c.in_ok-rname.ensures).long)

pub u32_at-requires-4 : goal.u32_at-requires-4
u32_at-requires-4 c = omega (arith, (names_stand c.args.rdata.now c.in_ok-mname.mname c.in_ok-rname.rname c.in_ok-mname.second c.in_ok-rname.numbers c.requires c.in_ok-mname.ensures c.in_ok-rname.ensures).long)

pub overflow_add-numbers-4 : goal.overflow_add-numbers-4
overflow_add-numbers-4 c = omega (arith, (names_stand c.args.rdata.now c.in_ok-mname.mname c.in_ok-rname.rname c.in_ok-mname.second c.in_ok-rname.numbers c.requires c.in_ok-mname.ensures c.in_ok-rname.ensures).long)

pub u32_at-requires-5 : goal.u32_at-requires-5
u32_at-requires-5 c = omega (arith, (names_stand c.args.rdata.now c.in_ok-mname.mname c.in_ok-rname.rname c.in_ok-mname.second c.in_ok-rname.numbers c.requires c.in_ok-mname.ensures c.in_ok-rname.ensures).long)

pub returns : goal.returns
returns c =
    let soa : Soa = record {
      mname = c.in_ok-mname.mname;
      rname = c.in_ok-rname.rname;
      serial = c.u32_at.result;
      refresh = c.u32_at-2.result;
      retry = c.u32_at-3.result;
      expire = c.u32_at-4.result;
      minimum = c.u32_at-5.result;
      ttl = c.args.ttl;
    } in
    let p = c.in_ok-mname.second in
    let q = c.in_ok-rname.numbers in
    let rdata = c.args.rdata.now in
    let octets : AreOctets rdata = λ k. omega (arith, c.type_inv.rdata k) in
    let names : NamesStand rdata soa.mname soa.rname p q = names_stand rdata c.in_ok-mname.mname c.in_ok-rname.rname p q c.requires c.in_ok-mname.ensures c.in_ok-rname.ensures in (
      soa_read rdata soa p q c.in_ok-mname.ensures c.in_ok-rname.ensures c.u32_at.ensures c.u32_at-2.ensures c.u32_at-3.ensures c.u32_at-4.ensures c.u32_at-5.ensures,
      soa_spelled rdata soa p q octets names c.u32_at.ensures c.u32_at-2.ensures c.u32_at-3.ensures c.u32_at-4.ensures c.u32_at-5.ensures,
    )
