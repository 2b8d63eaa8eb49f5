use Rattle.rpz_words.proofs.Forms.{endpoint_port}
use Rattle.rpz_words.proofs.laws.the_port_of_an_endpoint_is_not_0.Goals as goal

pub returns : goal.returns
returns c = endpoint_port
