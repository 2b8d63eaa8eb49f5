-- What a publication says, from what its parts say.
use Rattle.std.proofs.Common.{◌≡◌, ℕ, false, Option, Some, None, Ok, [], ◌∷◌, ◌++◌, subst}
use Rattle.std.specs.Prelude.{IfSome}
use Rattle.zone_rows.specs.declared.transfer.Transfer.{Transfer}
use Rattle.zone_rows.specs.declared.zone.PlainZone.{PlainZone}
use Rattle.ixfr_apply.specs.Marks.{with_mark}
use Rattle.policy_snapshot.specs.Policy.{zone_at}
use Rattle.policy_publish.specs.Lists.{Published}
use Rattle.policy_publish.specs.Publishing.{Publishes, Takes}
use Rattle.policy_publish.specs.declared.publication.Publication.{Publication}

published_if : (number : ℕ) (transfer : Transfer) (told : Publication) (old new : Published) (found : Option PlainZone) → IfSome found (λ zone. Takes number zone transfer told old.version new.version)
    → new.list ≡ old.list ++ record { zone = number; transfer = transfer } ∷ [] → new.marks ≡ with_mark old.marks number false → IfSome found (λ zone. Publishes number zone transfer (Ok told) old new)
published_if number transfer told old new None takes list marks = tt
published_if number transfer told old new (Some zone) takes list marks = record { takes = takes; list = list; marks = marks }

-- what was published, told of the fields of the old publisher
pub published_by : (number : ℕ) (transfer : Transfer) (told : Publication) (fields old new : Published) → fields ≡ old → IfSome (zone_at fields.version.zones number) (λ zone. Takes number zone transfer told fields.version new.version)
    → new.list ≡ fields.list ++ record { zone = number; transfer = transfer } ∷ [] → new.marks ≡ with_mark fields.marks number false → IfSome (zone_at old.version.zones number) (λ zone. Publishes number zone transfer (Ok told) old new)
published_by number transfer told fields old new same takes list marks =
    subst (λ (p : Published). IfSome (zone_at p.version.zones number) (λ zone. Publishes number zone transfer (Ok told) p new)) same
    (published_if number transfer told fields new (zone_at fields.version.zones number) takes list marks)
