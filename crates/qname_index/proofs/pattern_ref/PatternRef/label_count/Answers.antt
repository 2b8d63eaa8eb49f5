use Rattle.std.proofs.Common.{◌≡◌, ◌∷◌, sym, ap, ◌∙◌, arith, subst}
use Rattle.dns_name.specs.Alike.{PlainPattern}
use Rattle.dns_name.specs.Labels.{IsName}
use Rattle.qname_index.proofs.Written.{AreRead, count_is_small, is_there, key_is, read_at_first, read_at_last, read_more}
use Rattle.qname_index.proofs.pattern_ref.PatternRef.label_count.Goals as goal

pub loop-len-init : goal.loop-len-init
loop-len-init c =
    subst (λ (p : PlainPattern). AreRead c.self.inside.key.now 0 p.base) c.self.view_is
    (read_at_first _ c.self.inside.key.now (key_is c.self.inside.key.now c.self.inside.wild c.self.invariant))

pub split_at-requires : goal.split_at-requires
split_at-requires c =
    let first : c.loop-len.rest.now ≡ c.from.result ∷ c.in-Some.others.now = c.in-Some.ensures.cases.0 ∙ ap (λ n. n ∷ c.in-Some.others.now) (sym c.from.ensures) in
    is_there c.args.self.now.base c.loop-len.rest.now c.loop-len.count c.from.result c.in-Some.others.now c.loop-len.invariant first

pub overflow_add-count : goal.overflow_add-count
overflow_add-count c =
    let first : c.loop-len.rest.now ≡ c.from.result ∷ c.in-Some.others.now = c.in-Some.ensures.cases.0 ∙ ap (λ n. n ∷ c.in-Some.others.now) (sym c.from.ensures) in
    let name : IsName c.args.self.now.base = subst (λ (p : PlainPattern). IsName p.base) c.self.view_is c.self.invariant.pattern.name in
    omega (arith, count_is_small c.args.self.now.base c.loop-len.rest.now c.loop-len.count c.from.result c.in-Some.others.now name c.loop-len.invariant first)

pub loop-len-preserved : goal.loop-len-preserved
loop-len-preserved c =
    let first : c.loop-len.rest.now ≡ c.from.result ∷ c.in-Some.others.now = c.in-Some.ensures.cases.0 ∙ ap (λ n. n ∷ c.in-Some.others.now) (sym c.from.ensures) in
    read_more c.args.self.now.base c.loop-len.rest.now c.loop-len.count c.from.result c.in-Some.others.now c.split_at.result.1.now c.loop-len.invariant first c.split_at.ensures.back

pub returns : goal.returns
returns c = read_at_last c.args.self.now.base c.loop-len.rest.now c.loop-len.count c.loop-len.invariant c.in_default.ensures.cases
