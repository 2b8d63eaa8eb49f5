use Rattle.std.proofs.Common.{ℕ, List, ◌++◌, sym, ap, ◌∙◌, append-nil}
use Rattle.qname_index.specs.Key.{name_key}
use Rattle.qname_index.proofs.Keys.{key_is_short}
use Rattle.qname_index.proofs.key.Key.put.Goals as goal

pub loop-label-init : goal.loop-label-init
loop-label-init c = (
  ap name_key (sym c.labels-labels.ensures.labels) ∙ sym (append-nil (name_key c.labels-labels.result))
      ∙ ap (λ (k : List ℕ). name_key c.labels-labels.result ++ k) (sym c.clear.ensures),
  key_is_short c.args.name.now c.labels-labels.ensures.name,
)
