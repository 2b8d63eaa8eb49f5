-- Where a server begins.
use Rattle.std.proofs.Common.{◌≡◌, ℕ, List, [], length, map, ◌∙◌, ap}
use Rattle.std.proofs.lemmas.List.{length-map}
use Rattle.policy_override.specs.declared.zone_set.ZoneSet.{ZoneSet}
use Rattle.policy_override.specs.ZoneSet.{origins_in}
use Rattle.zone_rows.specs.Content.{unloaded}
use Rattle.ixfr_apply.specs.Marks.{no_marks}
use Rattle.policy_snapshot.specs.Stands.{PlainSnapshot, StandsFor, new_snapshot, origins_of}
use Rattle.policy_snapshot.proofs.Standing.{zones_behind-none}
use Rattle.policy_publish.specs.Lists.{Published}
use Rattle.rpz_program.specs.Turns.{nothing_published}

-- a store that was opened has nothing loaded
version_is : (zones : List ZoneSet) (version : PlainSnapshot) → StandsFor zones version [] → version ≡ new_snapshot zones
version_is zones version stands =
    let plain : version.zones ≡ map unloaded (origins_in zones) = stands.stands.zones ∙ zones_behind-none (origins_of version.zones) ∙ ap (map unloaded) stands.origins_are in
    let same : version.accepted ≡ 0 = stands.stands.accepted in
    λ i. record { zones = plain i; overrides = stands.overrides_are i; accepted = same i }

pub opened : (zones : List ZoneSet) (published : Published) → published.list ≡ [] → StandsFor zones published.version [] → published.marks ≡ no_marks (origins_in zones) → published ≡ nothing_published zones
opened zones published list stands marks =
    ap (λ l. record published { list = l }) list
    ∙ ap (λ v. record { list = []; version = v; marks = published.marks }) (version_is zones published.version stands)
    ∙ ap (λ m. record { list = []; version = new_snapshot zones; marks = m }) marks

-- it has as many zones as were set
pub opened_zones : (zones : List ZoneSet) (published : Published) → StandsFor zones published.version [] → length published.version.zones ≡ length zones
opened_zones zones published stands =
    ap (λ (v : PlainSnapshot). length v.zones) (version_is zones published.version stands) ∙ length-map (origins_in zones) unloaded ∙ length-map zones (λ (zone : ZoneSet). zone.origin)
