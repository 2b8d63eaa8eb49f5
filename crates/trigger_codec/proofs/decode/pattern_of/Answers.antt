use Rattle.std.proofs.Common.{◌≡◌, sym, ◌∙◌, subst}
use Rattle.std.specs.Prelude.{IfOk}
use Rattle.dns_name.specs.Alike.{PlainPattern}
use Rattle.trigger_codec.proofs.Firsts.{pattern_is, bool_byte-cond}
use Rattle.trigger_codec.proofs.decode.pattern_of.Goals as goal

pub returns : goal.returns
returns c = subst (λ (p : PlainPattern). IfOk c.new.result (λ pattern. pattern ≡ p)) (sym (pattern_is c.args.owner.now c.args.count c.begins_wild-wild.result c.from-from.result c.in_ok-base.base c.requires.some c.requires.within c.begins_wild-wild.ensures (c.from-from.ensures ∙ bool_byte-cond c.begins_wild-wild.result) c.in_ok-base.ensures.labels)) c.new.ensures.exact
