use Rattle.std.proofs.Common.{ap, ◌∙◌}
use Rattle.zone_index.specs.ActingEntries.{acting_marked}
use Rattle.zone_index.proofs.Acted.{made_prefixes, made_sorted}
use Rattle.zone_index.proofs.prefixes.Prefixes.acting_prefixes.Goals as goal

pub returns-clause-sorted : goal.returns-clause-sorted
returns-clause-sorted g c =
    made_sorted c.args.value c.self.inside.trie c.in_ok-entries.entries.items c.self.invariant.sorted
    (c.in_ok-entries.ensures ∙ ap (acting_marked c.args.value) (c.deref.ensures.value ∙ c.in_ok-found.ensures))

pub returns-clause-found : goal.returns-clause-found
returns-clause-found g c =
    made_prefixes c.args.value c.self.inside.trie c.in_ok-entries.entries.items c.self.invariant.sorted
    (c.in_ok-entries.ensures ∙ ap (acting_marked c.args.value) (c.deref.ensures.value ∙ c.in_ok-found.ensures))
    c.args.self.now c.self.view_is
