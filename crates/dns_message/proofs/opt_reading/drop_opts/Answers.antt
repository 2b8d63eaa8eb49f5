use Rattle.std.proofs.Common.{rules, not}
use Rattle.std.proofs.lemmas.Fn.{filter_same}
use Rattle.dns_record.specs.Record.{PlainRecord}
use Rattle.dns_message.specs.Reading.{is_opt}
use Rattle.dns_message.proofs.opt_reading.drop_opts.Goals as goal

pub returns : goal.returns
returns c = filter_same _ (λ (r : PlainRecord). not (is_opt r)) _ (λ x b f' k. search rules) _ _ c.retain.ensures.filtered
