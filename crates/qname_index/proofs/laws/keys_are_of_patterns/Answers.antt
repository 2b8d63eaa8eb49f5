use Rattle.qname_index.proofs.Back.{pattern_back}
use Rattle.qname_index.proofs.Ranking.{is_pattern_key}
use Rattle.qname_index.proofs.laws.keys_are_of_patterns.Goals as goal

pub returns : goal.returns
returns c = record { back = pattern_back; key = is_pattern_key }
