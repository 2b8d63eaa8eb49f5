use Rattle.std.specs.Option.{option_map}
use Rattle.upstream_link.specs.Entries.{entries_of, entry_of}
use Rattle.upstream_link.proofs.FactLemmas.{facts_popped, last_is_fresh}
use Rattle.upstream_link.proofs.Found.{popped_entries}
use Rattle.upstream_link.proofs.facts.Facts.pop.Goals as goal

pub invariant_of-self : goal.invariant_of-self
invariant_of-self c = facts_popped (entries_of c.self.inside.facts.items) (entries_of c.pop-last.new.self.items) (option_map entry_of c.pop-last.result) c.self.invariant (popped_entries c.self.inside.facts.items c.pop-last.new.self.items c.pop-last.result c.pop-last.ensures.items)

pub returns-clause-fresh : goal.returns-clause-fresh
returns-clause-fresh c = rw c.parts_of.ensures (last_is_fresh (entries_of c.self.inside.facts.items) (entries_of c.pop-last.new.self.items) (option_map entry_of c.pop-last.result) c.self.invariant (popped_entries c.self.inside.facts.items c.pop-last.new.self.items c.pop-last.result c.pop-last.ensures.items))
