use Rattle.std.proofs.Common.{ℕ, List, ◌++◌, ap, ◌∙◌}
use Rattle.std.proofs.lemmas.Result.{on_ok_weaker}
use Rattle.dns_name.specs.Wire.{labels_in}
use Rattle.packed_names.specs.Places.{Place, new_places_in_full}
use Rattle.packed_names.specs.Recent.{known_places}
use Rattle.packed_names.proofs.WrittenLemmas.{full_places_match}
use Rattle.packed_names.proofs.places.write_in_full.Goals as goal

pub returns-clause-places : goal.returns-clause-places
returns-clause-places c =
    let places = known_places c.args.suffixes.now.items c.args.recent.now in
    on_ok_weaker c.remember.result
    (λ e. e ∙ ap (λ (ps : List Place). places ++ ps) (full_places_match places c.args.octets.now c.len-start.result c.reach-end.result c.requires.wire c.reach-end.ensures ∙ ap (λ (n : ℕ). new_places_in_full places n (labels_in c.args.octets.now)) c.len-start.ensures))
    c.remember.ensures.places
