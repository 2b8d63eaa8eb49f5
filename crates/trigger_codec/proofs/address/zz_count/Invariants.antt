use Rattle.std.proofs.Common.{◌≡◌, ◌+◌, ◌-◌, ◌≤◌, take}
use Rattle.std.specs.List.{count_by}
use Rattle.trigger_codec.specs.Address.{is_zz}
use Rattle.trigger_codec.proofs.address.zz_count.Given as goal

abbrev pub invariant-loop-i : goal.invariant-loop-i
invariant-loop-i l = record { so_far : l.zz + count_by is_zz (take (l.count - l._i) l.labels) ≡ count_by is_zz (take l.count l.initial.labels); below : l.zz ≤ l._i }
