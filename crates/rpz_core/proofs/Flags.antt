-- Which workers have a pending query, one by one.
use Rattle.std.proofs.Common.{◌≡◌, ℕ, ◌+◌, ◌<◌, ◌≤◌, Bool, false, Option, None, List, length, get_or, map, ⊎_elim, sym, ap, ◌∙◌, arith}
use Rattle.std.specs.Prelude.{is_some, slice_set}
use Rattle.std.proofs.lemmas.Bool.{cases_eq}
use Rattle.std.proofs.lemmas.List.{ext_get_or, get_or-map, length-map, length-set}
use Rattle.std.proofs.lemmas.List.{get_or-set_same, get_or-set_other}
use Rattle.rpz_core.specs.declared.sessions.TheConstants.{WORKERS}

-- the flags of the first workers are set
pub record AreFlags {X : Type 0} (slots : List (Option X)) (flags : List Bool) (i : ℕ) : Type 0 where
  pub count : length flags ≡ WORKERS
  pub first : (k : ℕ) → k < i → get_or flags k false ≡ is_some (get_or slots k None)

module _ {X : Type 0} where
  pub flags_more : (slots : List (Option X)) (flags : List Bool) (i : ℕ) (b : Bool) → i < WORKERS → AreFlags slots flags i → b ≡ is_some (get_or slots i None) → AreFlags slots (slice_set flags i b) (i + 1)
  flags_more slots flags i b lt h e = record {
    count = length-set flags i b ∙ h.count;
    first = λ k below. ⊎_elim
        (λ same. ap (λ (n : ℕ). get_or (slice_set flags i b) n false) same ∙ get_or-set_same flags i b false (omega (arith, lt, h.count)) ∙ e ∙ ap (λ (n : ℕ). is_some (get_or slots n None)) (sym same))
        (λ other. get_or-set_other flags i k b false other ∙ h.first k (omega (arith, below, other)))
        (cases_eq k i);
  }

  pub flags_all : (slots : List (Option X)) (flags : List Bool) (i : ℕ) → length slots ≡ WORKERS → WORKERS ≤ i → AreFlags slots flags i → flags ≡ map is_some slots
  flags_all slots flags i long le h =
      ext_get_or false flags (map is_some slots) (h.count ∙ sym long ∙ sym (length-map slots is_some))
      (λ k lt. let within : k < length slots = omega (arith, lt, h.count, long) in
      h.first k (omega (arith, lt, le, h.count)) ∙ sym (get_or-map is_some slots k None false within))
