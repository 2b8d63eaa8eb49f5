use Rattle.upstream_link.proofs.Came.{came_at}
use Rattle.upstream_link.proofs.laws.bytes_say_that_something_came.Goals as goal

pub returns : goal.returns
returns c = came_at
