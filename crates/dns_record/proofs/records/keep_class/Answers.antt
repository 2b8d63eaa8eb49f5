use Rattle.std.proofs.Common.{rules, ◌==◌}
use Rattle.std.proofs.lemmas.Fn.{filter_same}
use Rattle.dns_record.specs.Record.{PlainRecord}
use Rattle.dns_record.proofs.records.keep_class.Goals as goal

pub returns : goal.returns
returns c = filter_same _ (λ (r : PlainRecord). r.class == c.args.class) _ (λ x b f' k. search rules) _ _ c.retain.ensures.filtered
