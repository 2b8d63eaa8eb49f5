-- Of two patterns that are about one server, the index has that first which precedes the other.
use Rattle.std.proofs.Common.{◌≡◌, ℕ, ◌+◌, ◌-◌, ◌<◌, ◌≤◌, Bool, true, false, not, IsTrue, ◌↔◌, List, [], ◌++◌, length, drop, map, reverse, refl, sym, ap, ◌∙◌, arith, length-append, true≢false}
use Rattle.std.proofs.lemmas.List.{length-map}
use Rattle.std.proofs.Math.Seq.{drop-append_seam}
use Rattle.std.specs.Char.{to_ascii_lowercase}
use Rattle.std.specs.Cmp.{ranked, tied_itself}
use Rattle.std.specs.Cmp.Derive.Mapped.{lex_map}
use Rattle.std.specs.Cmp.Lexicographic.{slice_cmp, lists_total, nat_list_cmp_total}
use Rattle.std.specs.Ordering.{nat_cmp, bool_cmp, ordering_then, is_lt}
use Rattle.std.specs.declared.cmp.Ordering.{Ordering}
use Rattle.std.specs.declared.cmp.Ordering.TheVariants.{Less, Equal, Greater}
use Rattle.dns_name.specs.Alike.{PlainPattern, same_name, ends_with, matches}
use Rattle.dns_name.specs.Labels.{name_octets, lowered, EndsWith}
use Rattle.dns_name.specs.Order.{canonical_order}
use Rattle.qname_index.specs.Best.{pattern_order}
use Rattle.rpz_precedence.specs.Rank.{server_order}
use Rattle.rpz_precedence.proofs.Hits.{both_first}
use Rattle.dns_name.proofs.Orders.{same_number, lowered-reverse}

-- names are alike exactly if they are one in lower case
abbrev pub AreAlike : Type 0
AreAlike = (name other : List (List ℕ)) → IsTrue (same_name name other) ↔ (lowered name ≡ lowered other)

-- a name ends with another exactly if it is the other with labels before it or none, in lower case
abbrev pub AreWithin : Type 0
AreWithin = (name zone : List (List ℕ)) → IsTrue (ends_with name zone) ↔ EndsWith name zone

-- ---- names that are alike tie in the canonical order

alike_tie : (a b : List (List ℕ)) → lowered a ≡ lowered b → canonical_order a b ≡ Equal
alike_tie a b e =
    let lower = λ (label : List ℕ). map to_ascii_lowercase label in
    let turned : lowered (reverse a) ≡ lowered (reverse b) = lowered-reverse a ∙ ap (λ (l : List (List ℕ)). reverse l) e ∙ sym (lowered-reverse b) in
    sym (lex_map lower (slice_cmp nat_cmp) (reverse a) (reverse b))
    ∙ ap (λ (l : List (List ℕ)). slice_cmp (slice_cmp nat_cmp) l (lowered (reverse b))) turned
    ∙ tied_itself (lists_total nat_list_cmp_total) (lowered (reverse b))

-- ---- the base of a pattern is the end of each name that the pattern is about

ending : AreAlike → AreWithin → (base : List (List ℕ)) (wild : Bool) (server : List (List ℕ)) → IsTrue (matches (record { base = base; wild = wild }) server) → EndsWith server base
ending alike within base true server h = (within server base).0 (both_first (ends_with server base) (not (same_name server base)) h)
ending alike within base false server h = ([], (alike server base).0 h)

ends_length : (base server front : List (List ℕ)) → lowered server ≡ front ++ lowered base → length server ≡ length front + length base
ends_length base server front e =
    let lower = λ (label : List ℕ). map to_ascii_lowercase label in
    sym (length-map server lower) ∙ ap (λ (l : List (List ℕ)). length l) e ∙ length-append front (lowered base) ∙ ap (λ (n : ℕ). length front + n) (length-map base lower)

ends_base : (base server : List (List ℕ)) → EndsWith server base → lowered base ≡ drop (length server - length base) (lowered server)
ends_base base server end =
    let n : length server - length base ≡ length end.0 = omega (arith, ends_length base server end.0 end.1) in
    sym (drop-append_seam end.0 (lowered base)) ∙ ap (λ (l : List (List ℕ)). drop (length end.0) l) (sym end.1) ∙ ap (λ (k : ℕ). drop k (lowered server)) (sym n)

-- ---- the two orders

not_less : (q p : Bool) (lengths octets names : Ordering) → (lengths ≡ Equal → names ≡ Equal) → (p ≡ false → lengths ≡ Less → ⊥) → is_lt (ordering_then (bool_cmp q p) (ordering_then lengths octets)) ≡ false → is_lt (ordering_then lengths (ordering_then (bool_cmp q p) names)) ≡ false
not_less q p Greater octets names same longest h = refl
not_less true true Equal octets names same longest h = ap is_lt (same refl)
not_less false false Equal octets names same longest h = ap is_lt (same refl)
not_less true false Equal octets names same longest h = refl
not_less false true Equal octets names same longest h = h
not_less q false Less octets names same longest h = absurd (longest refl refl)
not_less true true Less octets names same longest h = h
not_less false true Less octets names same longest h = h

-- two bases of one length that one name ends with are alike
one_base : (a b server : List (List ℕ)) → EndsWith server a → EndsWith server b → length a ≡ length b → lowered a ≡ lowered b
one_base a b server ends_a ends_b e =
    ends_base a server ends_a ∙ ap (λ (n : ℕ). drop (length server - n) (lowered server)) e ∙ sym (ends_base b server ends_b)

-- an exact pattern's base has as many labels as the name
exact_length : AreAlike → (base : List (List ℕ)) (wild : Bool) (server : List (List ℕ)) → IsTrue (matches (record { base = base; wild = wild }) server) → wild ≡ false → length server ≡ length base
exact_length alike base true server h exact = absurd (true≢false exact)
exact_length alike base false server h exact = omega (arith, ends_length base server [] ((alike server base).0 h))

-- and so no fewer than another that the name ends with
exact_longest : AreAlike → (p : PlainPattern) (base server : List (List ℕ)) → IsTrue (matches p server) → EndsWith server base → p.wild ≡ false → length base ≤ length p.base
exact_longest alike p base server h ends exact = omega (arith, exact_length alike p.base p.wild server h exact, ends_length base server ends.0 ends.1)

pub servers : AreAlike → AreWithin → (p q : PlainPattern) (server : List (List ℕ)) → IsTrue (matches p server) → IsTrue (matches q server) → is_lt (pattern_order q p) ≡ false → is_lt (server_order q p) ≡ false
servers alike within p q server hp hq =
    let ends_p = ending alike within p.base p.wild server hp in
    let ends_q = ending alike within q.base q.wild server hq in
    let lengths = nat_cmp (length p.base) (length q.base) in
    let tie : lengths ≡ Equal → canonical_order q.base p.base ≡ Equal =
    λ e. alike_tie q.base p.base (one_base q.base p.base server ends_q ends_p (sym (same_number (length p.base) (length q.base) e))) in
    let no_less : p.wild ≡ false → lengths ≡ Less → ⊥ =
    λ exact e. let less : length p.base < length q.base = ranked (length p.base) (length q.base) Less (sym e) in omega (arith, less, exact_longest alike p q.base server hp ends_q exact) in
    not_less q.wild p.wild lengths (slice_cmp nat_cmp (name_octets q.base) (name_octets p.base)) (canonical_order q.base p.base) tie no_less
