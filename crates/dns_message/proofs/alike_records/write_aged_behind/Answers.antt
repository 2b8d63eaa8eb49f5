use Rattle.std.proofs.Common.{ℕ, ◌-◌, ap, ◌∙◌}
use Rattle.std.proofs.lemmas.Result.{on_ok_weaker}
use Rattle.dns_message.proofs.AlikeLemmas.{pointed_aged}
use Rattle.dns_message.proofs.alike_records.write_aged_behind.Goals as goal

pub returns : goal.returns
returns c places is =
    on_ok_weaker c.write_pointed.result
    (λ e. pointed_aged places c.args.offset c.args.out.now c.write_pointed.new.out c.rdata.result.now c.args.rr.now c.args.seconds c.rtype.result c.class.result c.saturating_sub-ttl.result is c.rtype.ensures c.class.ensures (c.saturating_sub-ttl.ensures ∙ ap (λ (n : ℕ). n - c.args.seconds) c.ttl.ensures) c.rdata.ensures.rdata e)
    c.write_pointed.ensures
