use Rattle.rpz_core.proofs.Histories.{all_hold, each_is_answered, each_is_asked}
use Rattle.rpz_core.proofs.Kept.{obtained_kept}
use Rattle.rpz_core.proofs.laws.each_reply_is_the_policys_answer.Goals as goal

pub returns-clause-settings : goal.returns-clause-settings
returns-clause-settings c = λ settings primaries allowed events world reached. (all_hold c.a_policy_takes_transfers_one_by_one.ensures.accepted settings primaries allowed events world reached).settings_are

pub returns-clause-allowed : goal.returns-clause-allowed
returns-clause-allowed c = λ settings primaries allowed events world reached. (all_hold c.a_policy_takes_transfers_one_by_one.ensures.accepted settings primaries allowed events world reached).allowed_are

pub returns-clause-accepted : goal.returns-clause-accepted
returns-clause-accepted c = λ settings primaries allowed events world reached. (all_hold c.a_policy_takes_transfers_one_by_one.ensures.accepted settings primaries allowed events world reached).accepted

pub returns-clause-pending : goal.returns-clause-pending
returns-clause-pending c = λ settings primaries allowed events world worker pending reached. (all_hold c.a_policy_takes_transfers_one_by_one.ensures.accepted settings primaries allowed events world reached).pending worker pending

pub returns-clause-cached : goal.returns-clause-cached
returns-clause-cached c = λ settings primaries allowed events world entry reached. (all_hold c.a_policy_takes_transfers_one_by_one.ensures.accepted settings primaries allowed events world reached).cached entry

pub returns-clause-asks : goal.returns-clause-asks
returns-clause-asks c = λ settings primaries allowed events event world next worker message. each_is_asked c.a_policy_takes_transfers_one_by_one.ensures.accepted settings primaries allowed events event world next worker message

pub returns-clause-replies : goal.returns-clause-replies
returns-clause-replies c = λ settings primaries allowed events event world next worker said. each_is_answered c.a_policy_takes_transfers_one_by_one.ensures.accepted settings primaries allowed events event world next worker said

pub returns-clause-kept : goal.returns-clause-kept
returns-clause-kept c = obtained_kept c.what_is_obtained_is_kept.ensures.bytes

pub returns-clause-apart : goal.returns-clause-apart
returns-clause-apart c = λ settings primaries allowed events world reached. (all_hold c.a_policy_takes_transfers_one_by_one.ensures.accepted settings primaries allowed events world reached).apart
