use Rattle.std.proofs.Common.{[], refl, ◌∙◌}
use Rattle.dns_message.proofs.InPlace.{none_in, written_so}
use Rattle.dns_message.proofs.record_refs.RecordRefs.none.Goals as goal

pub new-requires-clause-written : goal.new-requires-clause-written
new-requires-clause-written c = written_so [] [] [] tt refl refl

pub returns : goal.returns
returns c = c.new.ensures ∙ none_in []
