-- The rule of what is shown: it is of the store that N names.
use Rattle.std.specs.Prelude.{◌≡◌}
use Rattle.std.specs.Arc.{arc_value}
use Rattle.policy_snapshot.specs.Stands.{StandsFor}
use Rattle.policy_publish.specs.Stores.{Store}
use Rattle.policy_publish.specs.declared.shown.Shown.{Shown}

-- the line stands in the store's book, and the version is the policy of the store's settings after the entries of the line
pub record IsOf (store : Store) (shown : Shown) : Type 0 where
  pub book : shown.line.book ≡ store.book
  pub stands : StandsFor store.settings (arc_value shown.version) shown.line.entries
