use Rattle.policy_snapshot.proofs.Passing.{KeyLaws, passed_over}
use Rattle.policy_snapshot.proofs.candidates.a_zone_that_is_no_candidate_has_no_hit.Goals as goal

pub returns : goal.returns
returns c =
    let laws : KeyLaws = record { same = c.triggers_of_one_place_are_equal.ensures.same; named = c.a_rule_does_what_its_rows_do.ensures.named } in
    λ number sight zone s names rows knows none. passed_over laws number sight zone s names rows knows none
