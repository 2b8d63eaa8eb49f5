-- The groups of a text's fields.
use Rattle.std.proofs.Common.{◌≡◌, ℕ, ◌<◌, List, [], ◌∷◌, length, Option, Some, None, refl, sym, ap, ◌∙◌, arith}
use Rattle.std.specs.List.{slice_split}
use Rattle.std.specs.Option.{option_and_then}
use Rattle.std.proofs.lemmas.List.Splits.{length-slice_split}
use Rattle.networks.specs.declared.groups.Groups.{Groups}
use Rattle.networks.specs.Groups.{with_group, with_groups}
use Rattle.networks.specs.Optional.{◌>>=◌}
use Rattle.networks.specs.V6.{is_colon, group_of, groups_of, text_groups}

-- a field before others
pub groups_first : (last : List ℕ → Option (List ℕ)) (field : List ℕ) (fields : List (List ℕ)) → 0 < length fields
    → groups_of last (field ∷ fields) ≡ group_of field >>= (λ group. groups_of last fields >>= (λ groups. Some (group ∷ groups)))
groups_first last field [] h = absurd (omega arith)
groups_first last field (next ∷ fields) h = refl

pub some_fields : (text : List ℕ) → 0 < length (slice_split is_colon text)
some_fields text = omega (arith, length-slice_split is_colon text)

none_behind : {A B : Type 0} (o : Option A) → option_and_then {T = A} {U = B} (λ x. None) o ≡ None
none_behind None = refl
none_behind (Some x) = refl

bound_is : {A B : Type 0} (o : Option A) (f : A → Option B) → o >>= f ≡ option_and_then f o
bound_is None f = refl
bound_is (Some x) f = refl

pub some_is : {A : Type 0} (o : Option A) → o >>= (λ x. Some x) ≡ o
some_is None = refl
some_is (Some x) = refl

-- one group more, and those behind it
step_by : (g : Groups) (o : Option ℕ) (os : Option (List ℕ)) → option_and_then (with_groups g) (o >>= (λ x. os >>= (λ xs. Some (x ∷ xs)))) ≡ option_and_then (λ more. option_and_then (with_groups more) os) (option_and_then (with_group g) o)
step_by g None os = refl
step_by g (Some x) None = sym (none_behind (with_group g x))
step_by g (Some x) (Some xs) = bound_is (with_group g x) (λ more. with_groups more xs)

pub field_step : (last : List ℕ → Option (List ℕ)) (text field behind : List ℕ) (g : Groups) → slice_split is_colon text ≡ field ∷ slice_split is_colon behind
    → option_and_then (with_groups g) (text_groups last text) ≡ option_and_then (λ more. option_and_then (with_groups more) (text_groups last behind)) (option_and_then (with_group g) (group_of field))
field_step last text field behind g cut =
    ap (λ (fields : List (List ℕ)). option_and_then (with_groups g) (groups_of last fields)) cut
    ∙ ap (λ (o : Option (List ℕ)). option_and_then (with_groups g) o) (groups_first last field (slice_split is_colon behind) (some_fields behind))
    ∙ step_by g (group_of field) (text_groups last behind)

-- the same where the field is a group, and there is room for it
pub field_more : (last : List ℕ → Option (List ℕ)) (text field behind : List ℕ) (g more : Groups) (group : ℕ) → slice_split is_colon text ≡ field ∷ slice_split is_colon behind
    → Some group ≡ group_of field → Some more ≡ with_group g group → option_and_then (with_groups g) (text_groups last text) ≡ option_and_then (with_groups more) (text_groups last behind)
field_more last text field behind g more group cut is_group has_room =
    field_step last text field behind g cut ∙ ap (option_and_then (λ m. option_and_then (with_groups m) (text_groups last behind))) (ap (option_and_then (with_group g)) (sym is_group) ∙ sym has_room)

-- where it is none
pub field_none : (last : List ℕ → Option (List ℕ)) (text field behind : List ℕ) (g : Groups) → slice_split is_colon text ≡ field ∷ slice_split is_colon behind
    → None ≡ group_of field → option_and_then (with_groups g) (text_groups last text) ≡ None
field_none last text field behind g cut is_none =
    field_step last text field behind g cut ∙ ap (λ (o : Option ℕ). option_and_then (λ m. option_and_then (with_groups m) (text_groups last behind)) (option_and_then (with_group g) o)) (sym is_none)

-- and where there is no room
pub field_full : (last : List ℕ → Option (List ℕ)) (text field behind : List ℕ) (g : Groups) (group : ℕ) → slice_split is_colon text ≡ field ∷ slice_split is_colon behind
    → Some group ≡ group_of field → None ≡ with_group g group → option_and_then (with_groups g) (text_groups last text) ≡ None
field_full last text field behind g group cut is_group full =
    field_step last text field behind g cut ∙ ap (option_and_then (λ m. option_and_then (with_groups m) (text_groups last behind))) (ap (option_and_then (with_group g)) (sym is_group) ∙ sym full)

-- the last field
pub field_last : (last : List ℕ → Option (List ℕ)) (text : List ℕ) (g : Groups) → slice_split is_colon text ≡ text ∷ [] → option_and_then (with_groups g) (text_groups last text) ≡ option_and_then (with_groups g) (last text)
field_last last text g cut = ap (λ (fields : List (List ℕ)). option_and_then (with_groups g) (groups_of last fields)) cut
