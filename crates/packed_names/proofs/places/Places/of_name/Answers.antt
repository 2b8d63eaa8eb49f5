use Rattle.std.proofs.Common.{rules, ◌≡◌, ℕ, ◌+◌, ◌≤◌, min, List, [], ◌∷◌, length, sym, ap, subst, ◌∙◌}
use Rattle.std.specs.List.{AllByRecursion}
use Rattle.std.proofs.Math.Nat.{min-le_right}
use Rattle.dns_name.proofs.WireLemmas.{IsWire-octets, labels_in-octets}
use Rattle.dns_name.specs.Wire.{labels_in, IsWire}
use Rattle.packed_names.specs.declared.recent.RecentName.{RecentName}
use Rattle.packed_names.specs.declared.table.SuffixEntry.{SuffixEntry}
use Rattle.packed_names.specs.Places.{Place, new_places_in_full}
use Rattle.packed_names.specs.Recent.{known_places, IsRecentName}
use Rattle.packed_names.specs.Table.{IsTable}
use Rattle.packed_names.proofs.WrittenLemmas.{full_places_match}
use Rattle.packed_names.proofs.places.Places.of_name.Goals as goal

pub invariant_of-result : goal.invariant_of-result
invariant_of-result c =
    let wire : IsWire c.octets-octets.result.now = IsWire-octets c.octets-octets.result.now c.args.name.now c.octets-octets.ensures.octets c.octets-octets.ensures.name in
    let near : c.reach-end.result ≤ 16384 = subst (λ (n : ℕ). n ≤ 16384) (sym c.reach-end.ensures) (min-le_right _ 16384) in
    let table : IsTable c.args.key c.new.result.items c.new-2.result.items = search rules in
    (table, subst (AllByRecursion IsRecentName) (sym c.of_one.ensures) (record { wire = wire; near = near }, tt))

pub returns : goal.returns
returns c =
    let wire : IsWire c.octets-octets.result.now = IsWire-octets c.octets-octets.result.now c.args.name.now c.octets-octets.ensures.octets c.octets-octets.ensures.name in
    ap (λ (s : List SuffixEntry). known_places s c.of_one.result) c.new-2.ensures.items
    ∙ ap (λ (names : List RecentName). known_places [] names) c.of_one.ensures
    ∙ full_places_match [] c.octets-octets.result.now c.args.start c.reach-end.result wire (c.reach-end.ensures ∙ ap (λ (n : ℕ). min (n + length c.octets-octets.result.now) 16384) c.from.ensures)
    ∙ ap (new_places_in_full [] c.args.start) (labels_in-octets c.octets-octets.result.now c.args.name.now c.octets-octets.ensures.octets c.octets-octets.ensures.name)
