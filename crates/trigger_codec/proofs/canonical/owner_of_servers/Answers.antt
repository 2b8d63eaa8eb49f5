use Rattle.std.proofs.Common.{rules, ◌≡◌, List, ℕ, ◌++◌, ◌∷◌, [], Ok, sym, ap, ◌∙◌, subst}
use Rattle.std.specs.Prelude.{codes}
use Rattle.dns_name.specs.Join.{join_outcome, JoinGives, JoinFails}
use Rattle.trigger_codec.specs.Canonical.{pattern_labels}
use Rattle.trigger_codec.proofs.JoinLemmas.{servers_text, fails_longer, joined_joined}
use Rattle.trigger_codec.proofs.canonical.owner_of_servers.Goals as goal
use Rattle.trigger_codec.proofs.canonical.owner_of_servers.Goals.{In_ok-marker}

marker : (c : In_ok-marker) → c.in_ok-marker.marker ≡ codes "rpz-nsdname" ∷ []
marker c = let e : Ok c.in_ok-marker.marker ≡ Ok (codes "rpz-nsdname" ∷ []) = sym c.in_ok-marker.ensures ∙ servers_text in cc

pub returns-in_err-zone : goal.returns-in_err-zone
returns-in_err-zone c =
    let at = (goal.at.returns-in_err-zone c).In_ok-marker in
    let long : JoinFails c.in_err-zone.field-0.0 (join_outcome (pattern_labels c.args.pattern.now ++ codes "rpz-nsdname" ∷ []) c.args.origin.now) =
    fails_longer c.in_err-zone.field-0.0 (pattern_labels c.args.pattern.now) (codes "rpz-nsdname" ∷ []) c.args.origin.now (subst (λ (front : List (List ℕ)). JoinFails c.in_err-zone.field-0.0 (join_outcome front c.args.origin.now)) (marker at) c.in_err-zone.ensures.exact) in
    search rules

pub returns : goal.returns
returns c =
    let at = (goal.at.returns c).In_ok-marker in
    let zone : join_outcome (codes "rpz-nsdname" ∷ []) c.args.origin.now ≡ Ok c.in_ok-zone.zone = ap (λ (front : List (List ℕ)). join_outcome front c.args.origin.now) (sym (marker at)) ∙ c.in_ok-zone.ensures.exact in
    subst (JoinGives c.owner_of_pattern.result) (joined_joined (pattern_labels c.args.pattern.now) (codes "rpz-nsdname" ∷ []) c.args.origin.now c.in_ok-zone.zone zone) c.owner_of_pattern.ensures
