-- It owns nothing, so threads may share it.
use denote.RattleType.{RattleType}
use denote.Param.Send.{IsSync, part_keyless}
use Rattle.ghost_values.specs.contracts.proof_only.ProofOnly.{the_row}
use Rattle.ghost_values.proofs.proof_only.ProofOnly.TheSendSync.Send.{send}

pub sync : (E : RattleType) → IsSync (the_row E)
sync E = record { shared = λ d b o κ q. part_keyless (the_row E) (send E) q d b o }
