-- What becomes of a transfer that is published.
use Rattle.std.specs.Prelude.{◌≡◌, ℕ, false, [], ◌∷◌, ◌++◌, Option, Result, Ok, Err}
use Rattle.zone_rows.specs.declared.fault.ApplyError.{ApplyError}
use Rattle.zone_rows.specs.declared.transfer.Transfer.{Transfer}
use Rattle.zone_rows.specs.declared.zone.Content.{Content}
use Rattle.zone_rows.specs.declared.zone.PlainZone.{PlainZone}
use Rattle.zone_rows.specs.Zone.{Fails, apply_outcome}
use Rattle.ixfr_apply.specs.Marks.{with_mark}
use Rattle.ixfr_apply.specs.Offer.{content_size}
use Rattle.policy_snapshot.specs.Stands.{PlainSnapshot, with_zone}
use Rattle.policy_publish.specs.Lists.{Published}
use Rattle.policy_publish.specs.declared.publication.Publication.{Publication}

-- the serial and the number of rows that a publication reports
abbrev pub told_size : Publication → ℕ × ℕ
told_size publication = (publication.serial, publication.rows)

-- these are the serial and the number of rows of what a zone holds
abbrev pub HasSize : Publication → Option Content → Type 0
HasSize publication content = told_size publication ≡ content_size content

-- The zone takes the transfer, and the new version is the old one with the zone as it is then. The publication has the serial and
-- the number of rows of that zone.
pub record Takes (number : ℕ) (zone : PlainZone) (transfer : Transfer) (told : Publication)
    (old new : PlainSnapshot) : Type 0 where
  pub next : PlainZone
  pub taken : apply_outcome zone transfer ≡ Ok next
  pub size : HasSize told next.content
  pub version : with_zone old number (Ok next) ≡ Ok new

-- The zone takes the transfer, which stands at the end of the list then. The zone is not marked, and all other zones are as they were.
pub record IsPublished (number : ℕ) (zone : PlainZone) (transfer : Transfer) (told : Publication)
    (old new : Published) : Type 0 where
  pub takes : Takes number zone transfer told old.version new.version
  pub list : new.list ≡ old.list ++ record { zone = number; transfer = transfer } ∷ []
  pub marks : new.marks ≡ with_mark old.marks number false

-- The transfer is published; or all is as it was, for the zone can't take it, or memory ran out.
abbrev pub Publishes : ℕ → PlainZone → Transfer → Result Publication ApplyError → Published →
    Published → Type 0
Publishes number zone transfer (Ok told) old new = IsPublished number zone transfer told old new
Publishes number zone transfer (Err error) old new =
    Fails error (apply_outcome zone transfer) × (new ≡ old)
