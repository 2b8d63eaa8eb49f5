use Rattle.std.proofs.Common.{◌∙◌, ap}
use Rattle.dns_name.specs.Alike.{PlainPattern}
use Rattle.dns_name.specs.Labels.{name_octets}
use Rattle.qname_index.proofs.Written.{base_is, key_in, name_of_key}
use Rattle.qname_index.proofs.pattern_ref.PatternRef.written_base.Goals as goal

pub written-requires-clause-name : goal.written-requires-clause-name
written-requires-clause-name c = name_of_key c.self.inside.key.now c.self.inside.wild c.self.invariant

pub written-requires-clause-key : goal.written-requires-clause-key
written-requires-clause-key c = key_in c.self.inside.key.now c.self.inside.wild c.self.invariant

pub returns : goal.returns
returns c = c.written.ensures ∙ ap name_octets (base_is c.self.inside.key.now c.self.inside.wild ∙ ap (λ (p : PlainPattern). p.base) c.self.view_is)
