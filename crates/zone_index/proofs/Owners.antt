-- The owner of a row, read from its octets.
use Rattle.std.proofs.Common.{◌≡◌, ℕ, List, length, Result, Ok, Err, sym, ap, ◌∙◌, subst, arith}
use Rattle.std.proofs.lemmas.List.{take_all}
use Rattle.dns_name.specs.Labels.{IsName, Name, name_octets}
use Rattle.dns_name.specs.Reading.{Fails, name_at}
use Rattle.dns_name.specs.Standing.{Stands}
use Rattle.dns_name.specs.declared.fault.NameError.{NameError}
use Rattle.dns_name.specs.declared.fault.NameError.TheVariants.{Fault}
use Rattle.dns_name.specs.declared.fault.NameFault.{NameFault}

-- a name is read where it stands
abbrev pub IsReadBack : Type 0
IsReadBack = (name : Name) (message : List ℕ) (at after : ℕ) → IsName name → Stands (name_octets name) message at after → name_at message at ≡ Ok (name, after)

stands_whole : (octets : List ℕ) → Stands octets octets 0 (length octets)
stands_whole octets = record { begins = take_all (length octets) octets (omega arith); ends = omega arith }

module _ (law : IsReadBack) (owner : Name) (is : IsName owner) (octets : List ℕ) (written : octets ≡ name_octets owner) where
  read_back : name_at octets 0 ≡ Ok (owner, length octets)
  read_back = law owner octets 0 (length octets) is (subst (λ xs. Stands xs octets 0 (length octets)) written (stands_whole octets))

  pub owner_read : (found : Name × ℕ) → name_at octets 0 ≡ Ok found → found.0 ≡ owner
  owner_read found first =
      let both : ◌≡◌ {A = Result (Name × ℕ) NameFault} (Ok found) (Ok (owner, length octets)) = sym first ∙ read_back in
      let same : ◌≡◌ {A = Name × ℕ} found (owner, length octets) = cc both in
      ap (λ (x : Name × ℕ). x.0) same

  pub no_fault : (e : NameError) (f : NameFault) → e ≡ Fault f → Fails e (name_at octets 0) → ⊥
  no_fault e f is_fault fails =
      let gone : ◌≡◌ {A = Result (Name × ℕ) NameFault} (Err f) (Ok (owner, length octets)) = sym (subst (λ (d : NameError). Fails d (name_at octets 0)) is_fault fails) ∙ read_back in
      cc gone
