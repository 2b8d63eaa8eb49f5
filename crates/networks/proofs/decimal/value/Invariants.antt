use Rattle.std.proofs.Common.{◌≡◌, ◌<◌, ◌^◌, take}
use Rattle.networks.specs.Decimal.{value_of}
use Rattle.networks.proofs.decimal.value.Given as goal

abbrev pub invariant-loop-digit : goal.invariant-loop-digit
invariant-loop-digit l = record { so_far : l.value ≡ value_of (take l.digit-index l.digits); below : l.value < 10 ^ l.digit-index }
