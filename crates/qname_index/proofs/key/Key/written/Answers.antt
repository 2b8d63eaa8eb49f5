use Rattle.std.proofs.Common.{◌≡◌, [], ◌∷◌, sym, ap, ◌∙◌}
use Rattle.qname_index.specs.Patterns.{name_in}
use Rattle.qname_index.proofs.Written.{has_room, turned_at_last, turned_more}
use Rattle.qname_index.proofs.key.Key.written.Goals as goal

pub split_at-requires : goal.split_at-requires
split_at-requires c =
    let first : c.loop-len.rest.now ≡ c.from.result ∷ c.in-Some.others.now = c.in-Some.ensures.cases.0 ∙ ap (λ n. n ∷ c.in-Some.others.now) (sym c.from.ensures) in
    (has_room (name_in c.args.octets.now) c.loop-len.rest.now c.loop-len.written c.from.result c.in-Some.others.now [] c.requires.name c.loop-len.invariant first).there

pub put_before-requires : goal.put_before-requires
put_before-requires c =
    let first : c.loop-len.rest.now ≡ c.from.result ∷ c.in-Some.others.now = c.in-Some.ensures.cases.0 ∙ ap (λ n. n ∷ c.in-Some.others.now) (sym c.from.ensures) in
    (has_room (name_in c.args.octets.now) c.loop-len.rest.now c.loop-len.written c.from.result c.in-Some.others.now c.split_at.result.0.now c.requires.name c.loop-len.invariant first).room c.split_at.ensures.front

pub loop-len-preserved : goal.loop-len-preserved
loop-len-preserved c =
    let first : c.loop-len.rest.now ≡ c.from.result ∷ c.in-Some.others.now = c.in-Some.ensures.cases.0 ∙ ap (λ n. n ∷ c.in-Some.others.now) (sym c.from.ensures) in
    turned_more (name_in c.args.octets.now) c.loop-len.rest.now c.loop-len.written c.put_before.new.self c.from.result c.in-Some.others.now c.split_at.result.0.now c.split_at.result.1.now
    c.loop-len.invariant first c.split_at.ensures.front c.split_at.ensures.back c.put_before.ensures

pub returns : goal.returns
returns c = turned_at_last (name_in c.args.octets.now) c.loop-len.rest.now c.loop-len.written c.loop-len.invariant c.in_default.ensures.cases
