use Rattle.rpz_words.proofs.EndpointLemmas.{endpoint_back}
use Rattle.rpz_words.proofs.laws.an_endpoint_is_read_back.Goals as goal

pub returns : goal.returns
returns c = endpoint_back c.what_is_written_is_read_back.ensures c.a_text_is_read_by_its_cases.ensures.only
