use Rattle.std.proofs.Common.{◌≡◌, ◌<◌, ◌^◌, take}
use Rattle.std.specs.Str.Parse.{digits_value}
use Rattle.networks.proofs.hexadecimal.value.Given as goal

abbrev pub invariant-loop-digit : goal.invariant-loop-digit
invariant-loop-digit l = record { so_far : l.value ≡ digits_value 16 (take l.digit-index l.digits); below : l.value < 64 ^ l.digit-index }
