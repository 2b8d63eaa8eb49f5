use Rattle.std.proofs.Common.{◌≡◌, length, arith}
use Rattle.dns_record.specs.Record.{record_octets}
use Rattle.load_gen.specs.Rules.{drawn_alias}
use Rattle.load_gen.proofs.Aliases.{alias_is_record, can_be_read, stands_whole, what_is_read}
use Rattle.load_gen.proofs.rules.alias_record.Goals as goal

pub record_in-requires : goal.record_in-requires
record_in-requires c =
    let made = drawn_alias c.args.owner.now c.args.target.now in
    let octets = record_octets made in
    let is_record = alias_is_record c.args.owner.now c.args.target.now c.in_ok-write_record.ensures.name c.octets-data.ensures.name in
    let written : c.as_slice.result.now ≡ octets = grind (arith, c.as_slice.ensures, c.in_ok-write_record.ensures.ok, c.new-octets.ensures, c.octets-data.ensures.octets) in
    rw written (can_be_read octets made (length octets) (c.a_record_is_read_where_it_stands.ensures.written made octets 0 (length octets) is_record (stands_whole octets)))

pub returns : goal.returns
returns c =
    let made = drawn_alias c.args.owner.now c.args.target.now in
    let octets = record_octets made in
    let is_record = alias_is_record c.args.owner.now c.args.target.now c.in_ok-write_record.ensures.name c.octets-data.ensures.name in
    let written : octets ≡ c.as_slice.result.now = grind (arith, c.as_slice.ensures, c.in_ok-write_record.ensures.ok, c.new-octets.ensures, c.octets-data.ensures.octets) in
    what_is_read octets made (length octets) c.record_in.result (c.a_record_is_read_where_it_stands.ensures.written made octets 0 (length octets) is_record (stands_whole octets))
    (rw written c.record_in.ensures)
