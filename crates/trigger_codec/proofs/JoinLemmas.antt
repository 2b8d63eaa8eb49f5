-- Names made of others.
use Rattle.std.proofs.Common.{◌≡◌, ℕ, ◌≤◌, List, [], ◌∷◌, ◌++◌, length, Result, Ok, Err, refl, sym, ap, ◌∙◌, append_assoc, arith, length-append, true, false, Bool}
use Rattle.std.specs.Prelude.{codes, nat_lt, if◌then◌else◌}
use Rattle.std.specs.List.{flat_map}
use Rattle.std.proofs.lemmas.Bool.Decides.{nat_tests}
use Rattle.std.proofs.lemmas.Grind.{flat_map-append}
use Rattle.dns_name.specs.Labels.{label_octets, name_octets}
use Rattle.dns_name.specs.Join.{join_outcome, JoinFails}
use Rattle.dns_name.specs.Text.{text_name}
use Rattle.dns_name.specs.declared.fault.JoinError.{JoinError}
use Rattle.dns_name.specs.declared.fault.JoinError.TheVariants.{OutOfMemory, Fault}
use Rattle.dns_name.specs.declared.fault.TooLong.{TooLong}

pub wildcard_text : text_name (codes "*") ≡ Ok (codes "*" ∷ [])
unfolding text_name
wildcard_text = refl

pub servers_text : text_name (codes "rpz-nsdname") ≡ Ok (codes "rpz-nsdname" ∷ [])
unfolding text_name
servers_text = refl

abbrev judged : Bool → List (List ℕ) → Result (List (List ℕ)) TooLong
judged b all = if b then Err (record {}) else Ok all

same_octets : (b : Bool) (name all : List (List ℕ)) → judged b all ≡ Ok name → all ≡ name
same_octets true name all h = cc
same_octets false name all h = cc

-- what two names make
pub joined_is : (front back name : List (List ℕ)) → join_outcome front back ≡ Ok name → front ++ back ≡ name
joined_is front back name h = same_octets (nat_lt 255 (length (name_octets (front ++ back)))) name (front ++ back) h

octets_more : (front back : List (List ℕ)) → length (name_octets back) ≤ length (name_octets (front ++ back))
octets_more front back =
    let e : name_octets (front ++ back) ≡ flat_map label_octets front ++ name_octets back = ap (λ (bytes : List ℕ). bytes ++ 0 ∷ []) (flat_map-append label_octets front back) ∙ append_assoc (flat_map label_octets front) (flat_map label_octets back) (0 ∷ []) in
    omega (arith, ap length e, length-append (flat_map label_octets front) (name_octets back))

too_long : (b : Bool) (all : List (List ℕ)) (fault : TooLong) → judged b all ≡ Err fault → b ≡ true
too_long true all fault h = refl
too_long false all fault h = absurd cc

-- what is too long stays so with labels before it
pub joined_longer : (front back zone : List (List ℕ)) (fault : TooLong) → join_outcome back zone ≡ Err fault → join_outcome (front ++ back) zone ≡ Err fault
joined_longer front back zone fault h =
    let long : nat_lt 255 (length (name_octets (back ++ zone))) ≡ true = too_long (nat_lt 255 (length (name_octets (back ++ zone)))) (back ++ zone) fault h in
    let more = octets_more front (back ++ zone) in
    let same : (front ++ back) ++ zone ≡ front ++ (back ++ zone) = append_assoc front back zone in
    let test : nat_lt 255 (length (name_octets ((front ++ back) ++ zone))) ≡ true = rw same (grind (arith, nat_tests)) in
    rw test refl

-- labels before a name that was made
pub joined_joined : (front back zone name : List (List ℕ)) → join_outcome back zone ≡ Ok name → join_outcome front name ≡ join_outcome (front ++ back) zone
joined_joined front back zone name h =
    let made : (front ++ back) ++ zone ≡ front ++ name = append_assoc front back zone ∙ ap (λ (ls : List (List ℕ)). front ++ ls) (joined_is back zone name h) in
    ap (λ (all : List (List ℕ)). judged (nat_lt 255 (length (name_octets all))) all) (sym made)

pub fails_longer : (e : JoinError) (front back zone : List (List ℕ)) → JoinFails e (join_outcome back zone) → JoinFails e (join_outcome (front ++ back) zone)
fails_longer OutOfMemory front back zone h = tt
fails_longer (Fault fault) front back zone h = joined_longer front back zone fault h
