use Rattle.std.proofs.Common.{◌≡◌, take}
use Rattle.std.specs.List.{flat_map}
use Rattle.std.specs.Prelude.{All}
use Rattle.upstream_link.specs.Entries.{addresses_by}
use Rattle.upstream_link.specs.Known.{AreInOrder}
use Rattle.upstream_link.proofs.server_lists.server_addresses.Given as goal

abbrev pub invariant-loop-known : goal.invariant-loop-known
invariant-loop-known l = All AreInOrder l.lists → l.all.items ≡ flat_map (addresses_by l.lists) (take l.known-index l.known-items)
