use Rattle.std.proofs.Common.{◌≡◌, false, map, take}
use Rattle.std.specs.Prelude.{All}
use Rattle.upstream_link.specs.Entries as form
use Rattle.upstream_link.specs.Known.{AreInOrder}
use Rattle.upstream_link.proofs.addresses.is_listed.Given as goal

abbrev pub invariant-loop-list : goal.invariant-loop-list
invariant-loop-list l = All AreInOrder (map (λ list. list.now) l.lists) → form.is_listed (map (λ list. list.now) (take l.list-index l.lists)) l.name ≡ false
