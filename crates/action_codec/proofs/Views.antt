-- What is done to the rows that references lead to.
use Rattle.std.proofs.Common.{◌≡◌, ◌||◌, List, [], ◌∷◌, map, refl, ap}
use Rattle.std.specs.List.{list_any}
use Rattle.dns_record.specs.Row.{PlainRow}
use Rattle.action_codec.specs.Action.{is_cname}
use Rattle.action_codec.specs.Local.{local_row}

module _ {V : Type 0} (row : V → PlainRow) where
  pub any_row : (vs : List V) → list_any (λ v. is_cname (row v)) vs ≡ list_any is_cname (map row vs)
  any_row [] = refl
  any_row (v ∷ vs) = ap (λ b. is_cname (row v) || b) (any_row vs)

  pub local_each : (vs : List V) → map (λ v. local_row (row v)) vs ≡ map local_row (map row vs)
  local_each [] = refl
  local_each (v ∷ vs) = ap (λ ls. local_row (row v) ∷ ls) (local_each vs)

  pub rows_of_values : {K : Type 0} (es : List (K × V)) → map row (map (λ e. e.1) es) ≡ map (λ e. row e.1) es
  rows_of_values [] = refl
  rows_of_values (e ∷ es) = ap (λ rs. row e.1 ∷ rs) (rows_of_values es)
