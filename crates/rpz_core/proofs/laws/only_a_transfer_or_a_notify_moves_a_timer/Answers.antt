use Rattle.rpz_core.proofs.Moved.{due_leaves, notify_moves, others_leave, unnamed_leaves}
use Rattle.rpz_core.proofs.laws.only_a_transfer_or_a_notify_moves_a_timer.Goals as goal

pub returns-clause-others : goal.returns-clause-others
returns-clause-others c = others_leave

pub returns-clause-unnamed : goal.returns-clause-unnamed
returns-clause-unnamed c = unnamed_leaves

pub returns-clause-notify : goal.returns-clause-notify
returns-clause-notify c = notify_moves

pub returns-clause-due : goal.returns-clause-due
returns-clause-due c = due_leaves
