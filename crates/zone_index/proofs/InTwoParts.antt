-- Octets that are written in two parts.
use Rattle.std.proofs.Common.{◌≡◌, ℕ, List, [], ◌∷◌, ◌++◌, ap, ◌∙◌, append_assoc}

-- three octets, and more behind them
pub in_two_parts : (old mid new behind : List ℕ) (kind a b c d : ℕ)
    → mid ≡ old ++ kind ∷ a ∷ b ∷ [] → new ≡ mid ++ behind → a ≡ c → b ≡ d → new ≡ old ++ kind ∷ c ∷ d ∷ behind
in_two_parts old mid new behind kind a b c d first rest e f =
    rest ∙ ap (λ xs. xs ++ behind) first ∙ append_assoc old (kind ∷ a ∷ b ∷ []) behind
    ∙ ap (λ x. old ++ kind ∷ x ∷ b ∷ behind) e ∙ ap (λ x. old ++ kind ∷ c ∷ x ∷ behind) f
