-- Data that are written part by part.
use Rattle.std.proofs.Common.{◌≡◌, ℕ, ◌+◌, ◌≤◌, ◌<◌, List, [], ◌∷◌, ◌++◌, length, drop, get_or, refl, sym, ap, subst, ◌∙◌, append_assoc, length-append}
use Rattle.std.proofs.lemmas.List.{append-nil, drop_all, drop_at, drop_more}
use Rattle.dns_name.specs.Labels.{IsName, Name, name_octets}
use Rattle.dns_name.specs.Reading.{NameOutcome, name_at}
use Rattle.dns_name.specs.Wire.{labels_in}
use Rattle.dns_name.proofs.WireLemmas.{labels_in-octets}
use Rattle.packed_names.specs.Front.{BeginsWithName}
use Rattle.packed_names.specs.Places.{Place, compressed_octets, new_places}
use Rattle.dns_record.specs.declared.part.Part.{Part}
use Rattle.dns_record.specs.declared.part.Part.TheVariants.{Name as NamePart, Fixed}
use Rattle.dns_record.specs.Part.{HasParts}
use Rattle.dns_record.proofs.LowerCase.{name_first, name_rest}
use Rattle.dns_message.specs.Compressed.{WrittenPart, data_part, data_parts, first_name, part_length}

-- what is written and what is left, while the parts are gone through
pub record WritesParts (places : List Place) (before : List ℕ) (parts : List Part) (rdata : List ℕ) (i : ℕ) (known : List Place) (out rest : List ℕ) : Type 0 where
  pub has : HasParts (drop i parts) rest
  pub octets : out ++ (data_parts known (length out) (drop i parts) rest).octets ≡ before ++ (data_parts places (length before) parts rdata).octets
  pub behind : (data_parts known (length out) (drop i parts) rest).places ≡ (data_parts places (length before) parts rdata).places

pub none_done : (places : List Place) (before : List ℕ) (parts : List Part) (rdata : List ℕ) → HasParts parts rdata → WritesParts places before parts rdata 0 places before rdata
none_done places before parts rdata has = record { has = has; octets = refl; behind = refl }

-- what stands behind the first part has the other parts
pub others_have : (part : Part) (others : List Part) (rdata : List ℕ) → HasParts (part ∷ others) rdata → HasParts others (drop (part_length part rdata) rdata)
others_have NamePart others rdata h =
    let rest : drop (first_name (name_at rdata 0)).1 rdata ≡ h.1 = ap (λ (o : NameOutcome). drop (first_name o).1 rdata) (name_first rdata h.1 h.0 h.2 h.3) ∙ name_rest rdata h.1 h.0 h.3 in
    subst (HasParts others) (sym rest) h.4
others_have (Fixed count) others rdata h =
    let rest : drop count rdata ≡ h.1 = ap (drop count) h.3 ∙ drop_at h.0 h.1 count h.2 in
    subst (HasParts others) (sym rest) h.4

pub next_has : (places : List Place) (before : List ℕ) (parts : List Part) (rdata : List ℕ) (i : ℕ) (known : List Place) (out rest : List ℕ) (d : Part) → i < length parts → WritesParts places before parts rdata i known out rest
    → HasParts (get_or parts i d ∷ drop (i + 1) parts) rest
next_has places before parts rdata i known out rest d lt h = subst (λ (ps : List Part). HasParts ps rest) (drop_more parts i d lt) h.has

-- one part more
pub one_more : (places : List Place) (before : List ℕ) (parts : List Part) (rdata : List ℕ) (i : ℕ) (known known' : List Place) (out out' rest rest' : List ℕ) (d : Part) → i < length parts → WritesParts places before parts rdata i known out rest
    → (let part = get_or parts i d in
    out' ≡ out ++ (data_part known (length out) part rest).octets → known' ≡ (data_part known (length out) part rest).places → rest' ≡ drop (part_length part rest) rest
    → WritesParts places before parts rdata (i + 1) known' out' rest')
unfolding data_parts
one_more places before parts rdata i known known' out out' rest rest' d lt h e f g =
    let part = get_or parts i d in
    let others = drop (i + 1) parts in
    let first = data_part known (length out) part rest in
    let behind = drop (part_length part rest) rest in
    let len : length out' ≡ length out + length first.octets = ap length e ∙ length-append out first.octets in
    let left = data_parts first.places (length out + length first.octets) others behind in
    let same : data_parts known' (length out') others rest' ≡ left =
    ap (λ (ps : List Place). data_parts ps (length out') others rest') f
    ∙ ap (λ (n : ℕ). data_parts first.places n others rest') len
    ∙ ap (data_parts first.places (length out + length first.octets) others) g
    in
    let all = drop_more parts i d lt in
    record {
      has = subst (HasParts others) (sym g) (others_have part others rest (next_has places before parts rdata i known out rest d lt h));
      octets =
          ap (λ (w : WrittenPart). out' ++ w.octets) same
          ∙ ap (λ (l : List ℕ). l ++ left.octets) e
          ∙ append_assoc out first.octets left.octets
          ∙ ap (λ (ps : List Part). out ++ (data_parts known (length out) ps rest).octets) (sym all)
          ∙ h.octets;
      behind =
          ap (λ (w : WrittenPart). w.places) same
          ∙ ap (λ (ps : List Part). (data_parts known (length out) ps rest).places) (sym all)
          ∙ h.behind;
    }

-- what is known when all parts are written
pub record WroteParts (places : List Place) (before : List ℕ) (parts : List Part) (rdata : List ℕ) (known : List Place) (out : List ℕ) : Type 0 where
  pub octets : out ≡ before ++ (data_parts places (length before) parts rdata).octets
  pub behind : known ≡ (data_parts places (length before) parts rdata).places

ended : (left : List Part) (places : List Place) (before : List ℕ) (parts : List Part) (rdata : List ℕ) (known : List Place) (out rest : List ℕ) → left ≡ [] → HasParts left rest
    → out ++ (data_parts known (length out) left rest).octets ≡ before ++ (data_parts places (length before) parts rdata).octets
    → (data_parts known (length out) left rest).places ≡ (data_parts places (length before) parts rdata).places
    → WroteParts places before parts rdata known out
unfolding data_parts
ended [] places before parts rdata known out rest none has e f =
    record {
      octets = sym (append-nil out) ∙ ap (λ (l : List ℕ). out ++ l) (sym has) ∙ e;
      behind = f;
    }
ended (part ∷ left) places before parts rdata known out rest none has e f = absurd cc

pub all_done : (places : List Place) (before : List ℕ) (parts : List Part) (rdata : List ℕ) (i : ℕ) (known : List Place) (out rest : List ℕ) → length parts ≤ i → WritesParts places before parts rdata i known out rest → WroteParts places before parts rdata known out
all_done places before parts rdata i known out rest le h = ended (drop i parts) places before parts rdata known out rest (drop_all i parts le) h.has h.octets h.behind

-- ---- one part

pub begins_with_name : (part : Part) (others : List Part) (rdata : List ℕ) → part ≡ NamePart → HasParts (part ∷ others) rdata → BeginsWithName rdata
begins_with_name part others rdata e has =
    let h = subst (λ (p : Part). HasParts (p ∷ others) rdata) e has in
    record { name = h.0; rest = h.1; is = h.2; whole = h.3 }

-- a name that was split off is the first of the data
pub record SplitsName (rdata front rest : List ℕ) : Type 0 where
  pub name : labels_in front ≡ (first_name (name_at rdata 0)).0
  pub others : rest ≡ drop (first_name (name_at rdata 0)).1 rdata

pub splits_name : (part : Part) (others : List Part) (rdata front rest : List ℕ) → part ≡ NamePart → HasParts (part ∷ others) rdata
    → ((name : Name) (behind : List ℕ) → IsName name → rdata ≡ name_octets name ++ behind → (front ≡ name_octets name) × (rest ≡ behind))
    → SplitsName rdata front rest
splits_name part others rdata front rest e has only =
    let h = subst (λ (p : Part). HasParts (p ∷ others) rdata) e has in
    let split = only h.0 h.1 h.2 h.3 in
    let first = name_first rdata h.1 h.0 h.2 h.3 in
    record {
      name = labels_in-octets front h.0 split.0 h.2 ∙ ap (λ (o : NameOutcome). (first_name o).0) (sym first);
      others = split.1 ∙ sym (name_rest rdata h.1 h.0 h.3) ∙ ap (λ (o : NameOutcome). drop (first_name o).1 rdata) (sym first);
    }

-- what is written of a name, and behind it
pub name_octets_are : (places : List Place) (at : ℕ) (part : Part) (rdata : List ℕ) (name : Name) → part ≡ NamePart → name ≡ (first_name (name_at rdata 0)).0 → compressed_octets places name ≡ (data_part places at part rdata).octets
name_octets_are places at part rdata name e f = rw e (ap (compressed_octets places) f)

pub name_places_are : (places : List Place) (at : ℕ) (part : Part) (rdata : List ℕ) (name : Name) → part ≡ NamePart → name ≡ (first_name (name_at rdata 0)).0 → places ++ new_places places at name ≡ (data_part places at part rdata).places
name_places_are places at part rdata name e f = rw e (ap (λ (n : Name). places ++ new_places places at n) f)

pub name_rest_is : (part : Part) (rdata rest : List ℕ) → part ≡ NamePart → rest ≡ drop (first_name (name_at rdata 0)).1 rdata → rest ≡ drop (part_length part rdata) rdata
name_rest_is part rdata rest e f = rw e f
