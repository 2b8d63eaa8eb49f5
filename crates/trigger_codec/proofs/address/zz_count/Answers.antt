use Rattle.std.proofs.Common.{cond, ℕ, Bool, ap, ◌∙◌, arith}
use Rattle.trigger_codec.proofs.WordLemmas.{count_more}
use Rattle.trigger_codec.proofs.Firsts.{bool_byte-cond, bool_byte-le}
use Rattle.trigger_codec.proofs.address.zz_count.Goals as goal

abbrev as_number : Bool → ℕ
as_number b = cond b 1 0

pub loop-i-preserved : goal.loop-i-preserved
loop-i-preserved c = record {
  so_far = count_more c.loop-i.zz c.from-zz.result _ c.args.count c.loop-i._i c.loop-i.labels c.next_label.new.self c.in-Some.label.now c.in-Some.ensures.next c.loop-i-test.true (c.from-zz.ensures ∙ bool_byte-cond c.is_zz.result ∙ ap as_number c.is_zz.ensures) c.loop-i.invariant.so_far;
  below = omega (arith, bool_byte-le c.is_zz.result);
}
