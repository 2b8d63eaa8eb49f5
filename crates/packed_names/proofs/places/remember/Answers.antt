use Rattle.std.proofs.Common.{List, ap, ◌∙◌}
use Rattle.dns_name.specs.Wire.{labels_in}
use Rattle.packed_names.specs.declared.recent.RecentName.{RecentName}
use Rattle.packed_names.specs.Recent.{known_after, known_places}
use Rattle.packed_names.specs.Table.{suffix_places}
use Rattle.packed_names.proofs.WrittenLemmas.{nothing_added, known_pushed}
use Rattle.packed_names.proofs.places.remember.Goals as goal

pub returns-then-start-end-clause-places : goal.returns-then-start-end-clause-places
returns-then-start-end-clause-places c = nothing_added (known_places c.args.suffixes.now.items c.args.recent.now) c.args.start c.args.end (labels_in c.args.octets.now) c.if-start-end.true

pub returns-clause-places : goal.returns-clause-places
returns-clause-places c =
    let places = suffix_places c.args.suffixes.now.items in
    let name : RecentName = record { octets = c.args.octets; start = c.args.start; end = c.args.end } in
    ap (λ (names : List RecentName). known_after places names) c.push.ensures ∙ known_pushed places c.args.recent.now name
