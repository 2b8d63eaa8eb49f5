use Rattle.std.proofs.Common.{◌≡◌, ◌++◌, length, map}
use Rattle.rpz_words.specs.Lists.{comma_parts}
use Rattle.rpz_words.proofs.cutting.comma_parts.Given as goal

abbrev pub invariant-loop-rest : goal.invariant-loop-rest
invariant-loop-rest l = map (λ part. part.now) l.parts.items ++ comma_parts l.rest ≡ comma_parts l.text

abbrev pub decreases-loop-rest : goal.decreases-loop-rest
decreases-loop-rest l = length l.rest
