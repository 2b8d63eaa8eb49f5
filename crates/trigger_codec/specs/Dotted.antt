-- Labels in the text of a name.
use Rattle.std.specs.Prelude.{◌≡◌, ℕ, ◌≤◌, true, List, ◌∷◌, length}
use Rattle.std.specs.List.{flat_map, list_all}
use Rattle.dns_name.specs.Labels.{Label}
use Rattle.dns_name.specs.Text.{is_label_byte}

-- the labels, with a dot before each
abbrev pub dotted : List Label → List ℕ
dotted labels = flat_map (λ label. 46 ∷ label) labels

-- a label of letters, digits, `-`, `_` and `*` only, of at most so many bytes
pub record IsShort (most : ℕ) (label : List ℕ) : Type 0 where
  pub some : 1 ≤ length label
  pub few : length label ≤ most
  pub bytes : list_all is_label_byte label ≡ true
