use Rattle.std.proofs.Common.{length, ◌∙◌}
use Rattle.dns_name.specs.Reading.{name_at}
use Rattle.qname_index.specs.Patterns.{name_in}
use Rattle.qname_index.proofs.Written.{as_pattern, key_in, lower_of_key, name_of_key, no_fault, pattern_of_key, read_back}
use Rattle.qname_index.proofs.pattern_ref.PatternRef.to_pattern.Goals as goal

pub written-written-requires-clause-name : goal.written-written-requires-clause-name
written-written-requires-clause-name c = name_of_key c.self.inside.key.now c.self.inside.wild c.self.invariant

pub written-written-requires-clause-key : goal.written-written-requires-clause-key
written-written-requires-clause-key c = key_in c.self.inside.key.now c.self.inside.wild c.self.invariant

pub unreachable-requires : goal.unreachable-requires
unreachable-requires c =
    let base = name_in c.self.inside.key.now in
    no_fault c.in-Err-Fault.field-0 c.in-Err-Fault.field-0-0 (name_at c.as_slice.result.now 0) (base, length c.as_slice.result.now) c.in-Err-Fault.field-0-is c.in-Err-Fault.ensures.exact
    (read_back base c.as_slice.result.now c.written-written.result c.a_name_is_read_where_it_stands.ensures.written (name_of_key c.self.inside.key.now c.self.inside.wild c.self.invariant) c.as_slice.ensures c.written-written.ensures)

pub returns-in-Ok : goal.returns-in-Ok
returns-in-Ok c =
    let base = name_in c.self.inside.key.now in
    as_pattern c.new.result (c.in-Ok.base, c.in-Ok.field-0-1) base (length c.as_slice.result.now) (name_at c.as_slice.result.now 0) c.self.inside.wild c.args.self.now c.new.ensures.exact c.in-Ok.ensures.exact
    (read_back base c.as_slice.result.now c.written-written.result c.a_name_is_read_where_it_stands.ensures.written (name_of_key c.self.inside.key.now c.self.inside.wild c.self.invariant) c.as_slice.ensures c.written-written.ensures)
    (lower_of_key c.self.inside.key.now c.self.inside.wild c.self.invariant)
    (pattern_of_key c.self.inside.key.now c.self.inside.wild ∙ c.self.view_is)
