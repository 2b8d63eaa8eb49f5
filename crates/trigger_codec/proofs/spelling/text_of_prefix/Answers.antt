use Rattle.std.proofs.Common.{List, ℕ, ◌++◌, ◌∷◌, [], sym, ap, ◌∙◌, append_assoc}
use Rattle.std.specs.Fmt.{decimal}
use Rattle.ip_prefix.specs.declared.Addr.{Addr}
use Rattle.trigger_codec.specs.Canonical.{address_labels}
use Rattle.trigger_codec.specs.Dotted.{dotted}
use Rattle.trigger_codec.proofs.TextLemmas.{text_is, dotted_more}
use Rattle.trigger_codec.proofs.spelling.text_of_prefix.Goals as goal

pub returns-clause-text : goal.returns-clause-text
returns-clause-text c =
    let marker : List ℕ = c.args.marker.now in
    let labels : List (List ℕ) = address_labels c.args.prefix.now.addr in
    let len : List ℕ = decimal c.args.prefix.now.length in
    c.in_ok-write.ensures.bytes
    ∙ ap (λ (text : List ℕ). text ++ 46 ∷ marker) (c.in_ok-write_address.ensures ∙ ap (λ (text : List ℕ). text ++ dotted (address_labels c.addr.result)) (c.in_ok-text.ensures.ok ∙ ap decimal c.length.ensures.length) ∙ ap (λ (addr : Addr). len ++ dotted (address_labels addr)) c.addr.ensures.addr)
    ∙ append_assoc len (dotted labels) (46 ∷ marker)
    ∙ ap (λ (text : List ℕ). len ++ text) (sym (dotted_more labels marker))
    ∙ sym (text_is len (labels ++ marker ∷ []))
