use Rattle.std.proofs.Common.{length, ap}
use Rattle.dns_record.specs.Reading.{record_at}
use Rattle.dns_record.specs.Record.{PlainRecord}
use Rattle.zone_rows.specs.Stored.{record_of}
use Rattle.zone_rows.proofs.StoredRows.{as_row, no_fault, read_back, same_record}
use Rattle.zone_rows.proofs.row_ref.RowRef.to_row.Goals as goal

pub of-requires : goal.of-requires
of-requires c =
    ap (λ (r : PlainRecord). r.class)
    (same_record (c.in-Ok.record_read, c.in-Ok.field-0-1) (record_of c.args.self.now) (length c.as_slice.result.now) (record_at c.as_slice.result.now 0) c.in-Ok.ensures
    (read_back c.args.self.now c.in_ok-written.written c.as_slice.result.now c.a_record_is_read_where_it_stands.ensures.written c.in_ok-written.ensures.is_row c.as_slice.ensures c.in_ok-written.ensures.octets))

pub returns-in-Ok : goal.returns-in-Ok
returns-in-Ok c =
    as_row c.of.result c.in-Ok.record_read c.args.self.now c.of.ensures.row
    (same_record (c.in-Ok.record_read, c.in-Ok.field-0-1) (record_of c.args.self.now) (length c.as_slice.result.now) (record_at c.as_slice.result.now 0) c.in-Ok.ensures
    (read_back c.args.self.now c.in_ok-written.written c.as_slice.result.now c.a_record_is_read_where_it_stands.ensures.written c.in_ok-written.ensures.is_row c.as_slice.ensures c.in_ok-written.ensures.octets))
    c.in_ok-written.ensures.is_row

pub unreachable-requires : goal.unreachable-requires
unreachable-requires c =
    no_fault c.in-Err-Fault.field-0 c.in-Err-Fault.field-0-0 (record_at c.as_slice.result.now 0) (record_of c.args.self.now, length c.as_slice.result.now) c.in-Err-Fault.field-0-is c.in-Err-Fault.ensures
    (read_back c.args.self.now c.in_ok-written.written c.as_slice.result.now c.a_record_is_read_where_it_stands.ensures.written c.in_ok-written.ensures.is_row c.as_slice.ensures c.in_ok-written.ensures.octets)
