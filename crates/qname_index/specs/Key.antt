-- The octets by which names stand in a trie.
use Rattle.std.specs.Prelude.{ℕ, List, reverse}
use Rattle.std.specs.List.{flat_map}
use Rattle.dns_name.specs.Labels.{Name, label_octets}

-- the labels of the name from the root on, each behind its length
abbrev pub name_key : Name → List ℕ
name_key name = flat_map label_octets (reverse name)
