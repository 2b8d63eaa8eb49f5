use Rattle.std.proofs.Common.{◌≡◌, ◌<◌, ◌∙◌, Some, length, sym, ap}
use Rattle.std.specs.Prelude.{slice_get}
use Rattle.std.proofs.lemmas.Bool.{ltb-true}
use Rattle.std.proofs.lemmas.Option.{slice_get-get_or}
use Rattle.dns_name.proofs.TailLemmas.{tail_found}
use Rattle.dns_name.proofs.name_reader.NameReader.tail_at.Goals as goal

pub returns-in-Some-get : goal.returns-in-Some-get
returns-in-Some-get c =
    let span = c.in-Some-get.span.now in
    let l = c.in-Some-get.ensures.lookup in
    let within : c.from.result < length c.deref-2.result.now = ltb-true _ _ (sym l.0) in
    let there : slice_get c.deref-2.result.now c.from.result ≡ Some span = slice_get-get_or c.deref-2.result.now c.from.result span within ∙ ap Some (sym (l.3.1 span)) in
    rw (← c.self.view_is, ← c.if-span-place.true, c.deref-in-Some-get.ensures.value) (tail_found c.self.inside.message.now c.self.inside.octets.items c.self.inside.spans.items c.from.result span c.self.invariant (rw c.deref-2.ensures.value at there))
