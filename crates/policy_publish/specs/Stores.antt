-- What a store is named by, and what contracts see of a line and of an addition to it.
use Rattle.std.specs.Prelude.{ℕ, List}
use Rattle.ip_prefix.specs.Prefix.{PlainPrefix}
use Rattle.logbook.specs.Pages.{Book}
use Rattle.policy_override.specs.declared.zone_set.ZoneSet.{ZoneSet}
use Rattle.policy_snapshot.specs.declared.entry.Entry.{Entry}

-- What a store of published versions is named by. These are the book in which its publications stand, the origins of its zones
-- with the override of each, the networks whose clients may ask, and how many readers it has.
pub record Store : Type 0 where
  pub book : Book
  pub settings : List ZoneSet
  pub allowed : List PlainPrefix
  pub readers : ℕ

-- entries that stand in a book, from its beginning on
pub record Listed : Type 0 where
  pub book : Book
  pub entries : List Entry

-- the same, and an entry that is to be added after them
pub record Added : Type 0 where
  pub book : Book
  pub entries : List Entry
  pub entry : Entry
