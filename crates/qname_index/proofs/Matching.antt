-- What a look-up finds by the octets of keys is what matches by names.
use Rattle.std.proofs.Common.{◌≡◌, ℕ, ◌+◌, ◌==◌, Bool, true, false, not, ◌&&◌, cond, IsTrue, ◌↔◌, List, [], ◌∷◌, ◌++◌, length, refl, sym, ap, ◌∙◌, arith, eqb-true, eq-eqb, length-append}
use Rattle.std.proofs.lemmas.Bool.{ne_eqb}
use Rattle.dns_name.specs.Alike.{ends_with, same_name}
use Rattle.dns_name.specs.Labels.{EndsWith, Label, Name, lowered}
use Rattle.octet_trie.specs.Fits.{fits, is_last}
use Rattle.octet_trie.specs.ListKeys.{entry_key}
use Rattle.qname_index.specs.Key.{name_key}
use Rattle.qname_index.proofs.Keys.{key_begins, key_of_front, key_same}

pub both_ways : (a b : Bool) → (a ≡ true → b ≡ true) → (b ≡ true → a ≡ true) → a ≡ b
both_ways true true f g = refl
both_ways true false f g = sym (f refl)
both_ways false true f g = g refl
both_ways false false f g = refl

pub first_true : (a b : Bool) → (a && b) ≡ true → a ≡ true
first_true true b e = refl
first_true false b e = e

second_true : (a b : Bool) → (a && b) ≡ true → b ≡ true
second_true true b e = e
second_true false b e = cc e

is_not : (b : Bool) → (b ≡ true → ⊥) → not b ≡ true
is_not true f = absurd (f refl)
is_not false f = refl

both_true : (a b : Bool) → a ≡ true → b ≡ true → (a && b) ≡ true
both_true a b e f = ap (λ x. x && b) e ∙ f

-- an octet is no end
on : (o x : ℕ) (q ss : List ℕ) → fits (o ∷ q) ((x + 2) ∷ ss) ≡ ((x + 2 == o + 2) && fits q ss)
on o x q ss = ap (λ b. cond b (is_last ss) ((x + 2 == o + 2) && fits q ss)) (ne_eqb (x + 2) 1 (λ e. omega (arith, e)))

not_end : (x : ℕ) (ss : List ℕ) → fits [] ((x + 2) ∷ ss) ≡ false
not_end x ss = ap (λ b. b && is_last ss) (ne_eqb (x + 2) 0 (λ e. omega (arith, e)))

never : (b : Bool) → b ≡ false → b ≡ true → ⊥
never true e f = cc e
never false e f = cc f

-- the exact entry of the octets alone
pub exact_fits : (q b : List ℕ) → fits q (entry_key b false) ≡ true → q ≡ b
exact_fits [] [] e = refl
exact_fits [] (x ∷ b) e = absurd (never _ (not_end x (entry_key b false)) e)
exact_fits (o ∷ q) [] e = absurd (never _ (ap (λ b. b && fits q []) (ne_eqb 0 (o + 2) (λ e. omega (arith, e)))) e)
exact_fits (o ∷ q) (x ∷ b) e =
    let both : ((x + 2 == o + 2) && fits q (entry_key b false)) ≡ true = sym (on o x q (entry_key b false)) ∙ e in
    let same : x + 2 ≡ o + 2 = eqb-true (x + 2) (o + 2) (first_true _ _ both) in
    let rest : q ≡ b = exact_fits q b (second_true (x + 2 == o + 2) _ both) in
    λ i. (let h : o ≡ x = omega arith in h i) ∷ rest i

pub exact_found : (q : List ℕ) → fits q (entry_key q false) ≡ true
exact_found [] = refl
exact_found (o ∷ q) = on o o q (entry_key q false) ∙ both_true _ _ (eq-eqb (o + 2) (o + 2) refl) (exact_found q)

-- the wild entries of all that the octets begin with and are longer than
pub wild_fits : (q b : List ℕ) → fits q (entry_key b true) ≡ true → (o : ℕ) × (rest : List ℕ) × (b ++ o ∷ rest ≡ q)
wild_fits [] [] e = absurd (let f : ◌≡◌ {A = Bool} false true = e in cc f)
wild_fits [] (x ∷ b) e = absurd (never _ (not_end x (entry_key b true)) e)
wild_fits (o ∷ q) [] e = (o, q, refl)
wild_fits (o ∷ q) (x ∷ b) e =
    let both : ((x + 2 == o + 2) && fits q (entry_key b true)) ≡ true = sym (on o x q (entry_key b true)) ∙ e in
    let same : x + 2 ≡ o + 2 = eqb-true (x + 2) (o + 2) (first_true _ _ both) in
    let deep = wild_fits q b (second_true (x + 2 == o + 2) _ both) in
    (deep.0, deep.1, λ i. (let h : x ≡ o = omega arith in h i) ∷ deep.2 i)

pub wild_found : (b : List ℕ) (o : ℕ) (rest : List ℕ) → fits (b ++ o ∷ rest) (entry_key b true) ≡ true
wild_found [] o rest = refl
wild_found (x ∷ b) o rest = on x x (b ++ o ∷ rest) (entry_key b true) ∙ both_true _ _ (eq-eqb (x + 2) (x + 2) refl) (wild_found b o rest)

-- an exact pattern of a name in lower case is about the name that has its key
pub exact_matches : (base name : Name) → lowered base ≡ base → lowered name ≡ name
    → ((n o : Name) → IsTrue (same_name n o) ↔ (lowered n ≡ lowered o))
    → fits (name_key name) (entry_key (name_key base) false) ≡ same_name name base
exact_matches base name lb ln alike = both_ways _ _
    (λ e. (alike name base).1 (ap lowered (key_same name base (exact_fits (name_key name) (name_key base) e))))
    (λ e. let same : name ≡ base = sym ln ∙ (alike name base).0 e ∙ lb in
    ap (λ b. fits (name_key name) (entry_key (name_key b) false)) (sym same) ∙ exact_found (name_key name))

-- more octets behind
more : (b front : List ℕ) → (front ≡ [] → ⊥) → fits (b ++ front) (entry_key b true) ≡ true
more b [] some = absurd (some refl)
more b (o ∷ rest) some = wild_found b o rest

key_is_empty : (front : List Label) → name_key front ≡ [] → front ≡ []
key_is_empty front e = key_same front [] e

-- a wild pattern of a name in lower case is about the names whose keys begin with its key and are longer
pub wild_matches : (base name : Name) → lowered base ≡ base → lowered name ≡ name
    → ((n o : Name) → IsTrue (same_name n o) ↔ (lowered n ≡ lowered o))
    → ((n o : Name) → IsTrue (ends_with n o) ↔ EndsWith n o)
    → fits (name_key name) (entry_key (name_key base) true) ≡ (ends_with name base && not (same_name name base))
wild_matches base name lb ln alike within = both_ways _ _
    (λ e.
    let found = wild_fits (name_key name) (name_key base) e in
    let front = key_begins name base (found.0 ∷ found.1) found.2 in
    let ends : EndsWith name base = (front.0, ln ∙ front.1 ∙ ap (λ b. front.0 ++ b) (sym lb)) in
    let other : same_name name base ≡ true → ⊥ = λ t.
    let same : name ≡ base = sym ln ∙ (alike name base).0 t ∙ lb in
    let lengths : length (name_key name) ≡ length (name_key base) = ap (λ n. length (name_key n)) same in
    omega (arith, lengths, ap length found.2, length-append (name_key base) (found.0 ∷ found.1)) in
    both_true _ _ ((within name base).1 ends) (is_not _ other))
    (λ e.
    let ends : EndsWith name base = (within name base).0 (first_true _ _ e) in
    let whole : name ≡ ends.0 ++ base = sym ln ∙ ends.1 ∙ ap (λ b. ends.0 ++ b) lb in
    let some : ends.0 ≡ [] → ⊥ = λ none.
    let same : name ≡ base = whole ∙ ap (λ f. f ++ base) none in
    never _ (ap not ((alike name base).1 (ap lowered same))) (second_true (ends_with name base) _ e) in
    ap (λ n. fits (name_key n) (entry_key (name_key base) true)) whole
    ∙ ap (λ k. fits k (entry_key (name_key base) true)) (key_of_front ends.0 base)
    ∙ more (name_key base) (name_key ends.0) (λ none. some (key_is_empty ends.0 none)))
