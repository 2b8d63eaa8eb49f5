use Rattle.std.proofs.Common.{◌≡◌, ◌-◌, ◌∷◌, [], length, sym, ap, ◌∙◌, arith, take, drop, length-drop}
use Rattle.trigger_codec.specs.Decode.{labels_trigger}
use Rattle.trigger_codec.proofs.Firsts.{no_labels, last_decides}
use Rattle.trigger_codec.proofs.decode.labels_trigger.Goals as goal

pub returns-then-count-eq0 : goal.returns-then-count-eq0
returns-then-count-eq0 c = ap (λ n. labels_trigger (take n c.args.owner.now)) c.if-count-eq0.true ∙ no_labels

pub returns-in_default : goal.returns-in_default
returns-in_default c =
    let none : drop (c.args.count - 1) c.args.owner.now ≡ [] = ap (drop (c.args.count - 1)) (sym c.labels-labels.ensures.labels) ∙ sym c.skip.ensures ∙ c.in_default.ensures.next.0 in
    absurd (omega (arith, c.requires, ap length none, length-drop (c.args.count - 1) c.args.owner.now))

pub returns : goal.returns
returns c =
    let owner = c.args.owner.now in
    let last : drop (c.args.count - 1) owner ≡ c.in-Some.last.now ∷ c.next_label.new.self = ap (drop (c.args.count - 1)) (sym c.labels-labels.ensures.labels) ∙ sym c.skip.ensures ∙ c.in-Some.ensures.next in
    let is = last_decides owner c.args.count c.in-Some.last.now c.next_label.new.self (omega arith) c.requires last in
    rw (is, ← c.marker_of.ensures) c.by_marker.ensures
