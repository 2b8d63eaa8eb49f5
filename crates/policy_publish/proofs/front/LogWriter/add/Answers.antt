use Rattle.std.proofs.Common.{◌≡◌, ◌∙◌, ap, sym}
use Rattle.policy_publish.specs.Stores.{Added}
use Rattle.policy_publish.proofs.Adding.{adds_moves}
use Rattle.policy_publish.proofs.front.LogWriter.add.Goals as goal

pub compare_exchange-found-requires : goal.compare_exchange-found-requires
compare_exchange-found-requires c =
    let h = c.self.invariant in
    let pen = c.no_pen-pen.ensures in
    let addition = c.addition.invariant in
    let book : c.addition.inside.seen.book ≡ c.self.inside.head.book = ap (λ (a : Added). a.book) c.addition.view_is ∙ (c.requires.book ∙ sym c.self.view_is) in (
      ap (λ w. w.tracked) h,
      book,
      pen.0 ∙ book,
      addition.1,
      rw (ap (λ w. w.key) h, pen.1, addition.2) (adds_moves c.addition.inside.seen.log c.addition.inside.offer.ask c.addition.inside.count (sym addition.0)),
    )
