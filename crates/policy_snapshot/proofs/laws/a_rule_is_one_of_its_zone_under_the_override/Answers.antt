use Rattle.policy_snapshot.proofs.RulesOfZones.{both_ways}
use Rattle.policy_snapshot.proofs.laws.a_rule_is_one_of_its_zone_under_the_override.Goals as goal

pub returns : goal.returns
returns c = both_ways
