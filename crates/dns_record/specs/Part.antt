-- What the data of a record is made of, by its type and class (RFC 1035, sections 3.3 and 3.4; RFC 2782; RFC 3596; RFC 6672).
use Rattle.std.specs.Prelude.{◌≡◌, ℕ, ◌==◌, Bool, ◌||◌, if◌then◌else◌, List, [], ◌∷◌, ◌++◌, length, Option, Some, None}
use Rattle.dns_name.specs.Labels.{IsName, name_octets, Name}
use Rattle.dns_record.specs.declared.part.Part.{Part}
use Rattle.dns_record.specs.declared.part.Part.TheVariants.{Name as NamePart, Fixed}
use Rattle.dns_record.specs.declared.rtype.TheConstants.{A, AAAA, CNAME, DNAME, MB, MD, MF, MG, MINFO, MR, MX, NS, PTR, SOA, SRV}
use Rattle.dns_record.specs.declared.class.TheConstants.{IN}

-- NS, MD, MF, CNAME, MB, MG, MR, PTR and DNAME: the data is one name.
abbrev pub is_one_name : ℕ → Bool
is_one_name rtype =
    rtype == NS
    || (rtype == MD
    || (rtype == MF
    || (rtype == CNAME
    || (rtype == MB || (rtype == MG || (rtype == MR || (rtype == PTR || rtype == DNAME)))))))

-- In class IN the data of A is four octets, and that of AAAA sixteen.
abbrev pub address_layout : ℕ → Option (List Part)
address_layout rtype =
    if rtype == A then Some (Fixed 4 ∷ [])
    else (if rtype == AAAA then Some (Fixed 16 ∷ []) else None)

-- The parts of the data of a type (RFC 1035, section 3.3; RFC 2782; RFC 6672), or None for any octets. SOA is two names and
-- five numbers of 32 bits; MINFO is two names; MX is a number of 16 bits and a name; SRV is three numbers of 16 bits and a
-- name.
abbrev pub layout_of : ℕ → ℕ → Option (List Part)
layout_of rtype class =
    if is_one_name rtype then Some (NamePart ∷ [])
    else (if rtype == SOA then Some (NamePart ∷ NamePart ∷ Fixed 20 ∷ [])
    else (if rtype == MINFO then Some (NamePart ∷ NamePart ∷ [])
    else (if rtype == MX then Some (Fixed 2 ∷ NamePart ∷ [])
    else (if rtype == SRV then Some (Fixed 6 ∷ NamePart ∷ [])
    else (if class == IN then address_layout rtype else None)))))

-- The octets are these parts, one after another, with names in full.
abbrev pub HasParts : List Part → List ℕ → Type 0
HasParts [] octets = octets ≡ []
HasParts (NamePart ∷ parts) octets =
    (name : Name) × (rest : List ℕ) × IsName name × (octets ≡ name_octets name ++ rest)
    × HasParts parts rest
HasParts (Fixed count ∷ parts) octets =
    (first : List ℕ) × (rest : List ℕ) × (length first ≡ count) × (octets ≡ first ++ rest)
    × HasParts parts rest
