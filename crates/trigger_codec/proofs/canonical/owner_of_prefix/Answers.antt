use Rattle.std.proofs.Common.{◌≡◌, List, ℕ, ◌++◌, ◌∷◌, [], sym, ap, ◌∙◌, subst, Ok}
use Rattle.dns_name.specs.Join.{join_outcome, JoinGives}
use Rattle.dns_name.specs.Text.{text_name, text_of}
use Rattle.trigger_codec.specs.Canonical.{prefix_labels}
use Rattle.trigger_codec.proofs.ShortLemmas.{prefix_short, short_name, short_bytes}
use Rattle.trigger_codec.proofs.canonical.owner_of_prefix.Goals as goal

pub returns : goal.returns
returns c =
    let marker : List ℕ = c.args.marker.now in
    let labels : List (List ℕ) = prefix_labels c.args.prefix.now in
    let short = prefix_short c.args.prefix.now c.text_of_prefix.ensures.is_prefix in
    let read : text_name (text_of (labels ++ marker ∷ [])) ≡ Ok (labels ++ marker ∷ []) = c.a_name_is_read_from_its_text.ensures (labels ++ marker ∷ []) (short_name labels marker short c.requires) (λ none. cc) (short_bytes labels marker short c.requires) in
    let same : c.in_ok-front.front ≡ labels ++ marker ∷ [] = (let e : Ok c.in_ok-front.front ≡ Ok (labels ++ marker ∷ []) = sym c.in_ok-front.ensures ∙ ap text_name (c.as_bytes.ensures.value ∙ c.in_ok-text.ensures.text) ∙ read in cc) in
    subst (λ (front : List (List ℕ)). JoinGives c.join.result (join_outcome front c.args.origin.now)) same c.join.ensures.exact
