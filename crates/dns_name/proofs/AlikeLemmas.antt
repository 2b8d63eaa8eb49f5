-- Names that are alike, and those that lie under others, by tests.
use Rattle.std.proofs.Common.{◌≡◌, ℕ, List, [], ◌∷◌, map, Bool, not, ◌&&◌, if◌then◌else◌, ◌↔◌, IsTrue, length, take, ◌-◌, refl, ap}
use Rattle.std.specs.Char.{to_ascii_lowercase}
use Rattle.std.specs.Cmp.Lexicographic.{pointwise}
use Rattle.std.specs.List as lists
use Rattle.std.specs.Str.{bytes_eq}
use Rattle.std.proofs.lemmas.Bool.Decides.{same_from_decides}
use Rattle.std.proofs.lemmas.Slice.Eq.{slice_eq-Decides, bytes_eq-Decides, ends_is}
use Rattle.std.proofs.lemmas.Str.Ascii.{lowercase-lowercase}
use Rattle.dns_name.specs.Labels.{lowered, EndsWith}
use Rattle.dns_name.specs.Alike.{PlainPattern, same_name, ends_with, matches}

pub same_name_is : (a b : List (List ℕ)) → IsTrue (same_name a b) ↔ (lowered a ≡ lowered b)
same_name_is a b = slice_eq-Decides bytes_eq-Decides (lowered a) (lowered b) (same_name a b) refl

pub ends_with_is : (name zone : List (List ℕ)) → IsTrue (ends_with name zone) ↔ EndsWith name zone
ends_with_is name zone =
    let ends = ends_is bytes_eq-Decides (lowered name) (lowered zone) (ends_with name zone) refl in
    (λ t. (take (length (lowered name) - length (lowered zone)) (lowered name), ends.0 t), λ u. ends.1 u.0 u.1)

pub tells_same : (a b : List (List ℕ)) (r : Bool) → (IsTrue r ↔ (lowered a ≡ lowered b)) → r ≡ same_name a b
tells_same a b r h = same_from_decides r (same_name a b) h (same_name_is a b)

pub tells_ending : (name zone : List (List ℕ)) (r : Bool) → (IsTrue r ↔ EndsWith name zone) → r ≡ ends_with name zone
tells_ending name zone r h = same_from_decides r (ends_with name zone) h (ends_with_is name zone)

lower_case_label : (label : List ℕ) → map to_ascii_lowercase (map to_ascii_lowercase label) ≡ map to_ascii_lowercase label
lower_case_label [] = refl
lower_case_label (c ∷ cs) = λ i. lowercase-lowercase c i ∷ lower_case_label cs i

-- a name in lower case has no upper case more
pub lowered-lowered : (name : List (List ℕ)) → lowered (lowered name) ≡ lowered name
lowered-lowered [] = refl
lowered-lowered (l ∷ ls) = λ i. lower_case_label l i ∷ lowered-lowered ls i

-- a pattern looks at the name in lower case alone
pub matches-lowered : (pattern : PlainPattern) (name : List (List ℕ)) → matches pattern (lowered name) ≡ matches pattern name
matches-lowered pattern name =
    ap (λ (low : List (List ℕ)). if pattern.wild then lists.ends_with bytes_eq low (lowered pattern.base) && not (pointwise bytes_eq low (lowered pattern.base)) else pointwise bytes_eq low (lowered pattern.base)) (lowered-lowered name)
