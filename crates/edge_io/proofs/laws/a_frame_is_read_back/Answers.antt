use Rattle.edge_io.proofs.ReadBack.{read_back}
use Rattle.edge_io.proofs.laws.a_frame_is_read_back.Goals as goal

pub returns : goal.returns
returns c = read_back
