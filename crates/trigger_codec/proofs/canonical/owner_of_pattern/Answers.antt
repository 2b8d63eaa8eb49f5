use Rattle.std.proofs.Common.{◌≡◌, List, ℕ, true, ◌∷◌, [], Ok, refl, sym, ap, ◌∙◌, subst}
use Rattle.std.specs.Prelude.{codes}
use Rattle.dns_name.specs.Alike.{PlainPattern}
use Rattle.dns_name.specs.Join.{join_outcome, JoinGives}
use Rattle.trigger_codec.specs.Canonical.{pattern_labels}
use Rattle.trigger_codec.proofs.JoinLemmas.{wildcard_text, joined_joined}
use Rattle.trigger_codec.proofs.canonical.owner_of_pattern.Goals as goal

wild_labels : (pattern : PlainPattern) → pattern.wild ≡ true → pattern_labels pattern ≡ codes "*" ∷ pattern.base
wild_labels pattern w = rw w refl

pub returns-in_ok-base : goal.returns-in_ok-base
returns-in_ok-base c =
    let wild : c.in_ok-wild.wild ≡ codes "*" ∷ [] = (let e : Ok c.in_ok-wild.wild ≡ Ok (codes "*" ∷ []) = sym c.in_ok-wild.ensures ∙ wildcard_text in cc) in
    let base : join_outcome c.args.pattern.now.base c.args.zone.now ≡ Ok c.in_ok-base.base = ap (λ (b : List (List ℕ)). join_outcome b c.args.zone.now) (sym c.base.ensures.base) ∙ c.in_ok-base.ensures.exact in
    let whole : join_outcome c.in_ok-wild.wild c.in_ok-base.base ≡ join_outcome (pattern_labels c.args.pattern.now) c.args.zone.now =
    ap (λ (front : List (List ℕ)). join_outcome front c.in_ok-base.base) wild
    ∙ joined_joined (codes "*" ∷ []) c.args.pattern.now.base c.args.zone.now c.in_ok-base.base base
    ∙ ap (λ (front : List (List ℕ)). join_outcome front c.args.zone.now) (sym (wild_labels c.args.pattern.now (sym c.is_wild.ensures ∙ c.if-is_wild.true))) in
    subst (JoinGives c.join-then-is_wild.result) whole c.join-then-is_wild.ensures.exact
