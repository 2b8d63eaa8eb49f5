use Rattle.std.proofs.Common.{sym, ap, subst, ◌∙◌}
use Rattle.std.specs.BTreeMap.{insert_entry}
use Rattle.ip_prefix.specs.Prefix.{prefix_order}
use Rattle.zone_index.proofs.Filled.{found_prefixes, prefixes_more}
use Rattle.zone_index.specs.Made.{AreFoundPrefixes, prefixes_of}
use Rattle.zone_index.proofs.prefix_entries.PrefixEntries.put.Goals as goal

pub invariant_of-self-2 : goal.invariant_of-self-2
invariant_of-self-2 c =
    subst (λ l. AreFoundPrefixes l c.in_ok-acting.acting) (sym c.in_ok-push.ensures.items)
    (found_prefixes c.self.inside.found.items (c.args.prefix.now, c.args.value) c.self.inside.acting c.in_ok-acting.acting c.args.self.now
    c.self.invariant c.self.view_is c.requires.present c.requires.none c.in_ok-acting.ensures)

pub returns : goal.returns
returns c =
    ap prefixes_of c.in_ok-push.ensures.items
    ∙ prefixes_more c.self.inside.found.items (c.args.prefix.now, c.args.value)
    ∙ ap (λ es. insert_entry prefix_order es c.args.prefix.now c.args.value) c.self.view_is
