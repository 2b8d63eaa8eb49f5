-- Keys cut from one string of octets.
use Rattle.std.proofs.Common.{◌≡◌, ℕ, ◌+◌, ◌<◌, ◌≤◌, List, [], ◌∷◌, ◌++◌, length, map, take, drop, get_or, sym, ap, ◌∙◌, arith, add-one, append_assoc, append-nil, drop-cons, length-drop}
use Rattle.std.proofs.lemmas.List.{map-append, take_all, take-append-le, drop-append-le, drop_all, nil_from_length}
use Rattle.std.proofs.lemmas.List.Sums.{sum_by-cons}
use Rattle.std.specs.List.{sum_by}
use Rattle.packed_lists.specs.Cut.{keys_cut}
use Rattle.packed_lists.specs.KeysSeen.{keyed_seen}
use Rattle.packed_lists.specs.declared.keyed.Keyed.{Keyed}
use Rattle.packed_lists.specs.declared.mark.Mark.{Mark}

-- one more key behind those that fill the octets
pub cut_more : (marks : List Mark) (mark : Mark) (octets key : List ℕ) → sum_by (λ m. m.len) marks ≡ length octets → mark.len ≡ length key
    → keys_cut (marks ++ mark ∷ []) (octets ++ key) ≡ keys_cut marks octets ++ record { key = key; number = mark.number } ∷ []
cut_more [] mark octets key e len =
    let none : octets ≡ [] = nil_from_length octets (sym e) in
    ap (λ l. keys_cut (mark ∷ []) (l ++ key)) none ∙ ap (λ k. record { key = k; number = mark.number } ∷ []) (take_all mark.len key (omega arith))
cut_more (m ∷ marks) mark octets key e len =
    let sum : m.len + sum_by (λ m. m.len) marks ≡ length octets = sym (sum_by-cons (λ (m : Mark). m.len) m marks) ∙ e in
    let left : sum_by (λ m. m.len) marks ≡ length (drop m.len octets) = omega (arith, length-drop m.len octets) in
    let within : m.len ≤ length octets = omega arith in
    (λ i. record { key = take-append-le m.len octets key within i; number = m.number } ∷ keys_cut (marks ++ mark ∷ []) (drop-append-le m.len octets key within i))
    ∙ ap (λ ks. record { key = take m.len octets; number = m.number } ∷ ks) (cut_more marks mark (drop m.len octets) key left len)

-- the next key that is cut
pub cut_next : (before new : List Keyed) (key : Keyed) (marks : List Mark) (i : ℕ) (d : Mark) (rest behind : List ℕ) → i < length marks → new ≡ before ++ key ∷ []
    → key.key.now ≡ take (get_or marks i d).len rest → key.number ≡ (get_or marks i d).number → behind ≡ drop (get_or marks i d).len rest
    → map keyed_seen new ++ keys_cut (drop (i + 1) marks) behind ≡ map keyed_seen before ++ keys_cut (drop i marks) rest
cut_next before new key marks i d rest behind lt e octets number left =
    let mark = get_or marks i d in
    let first : drop i marks ≡ mark ∷ drop (i + 1) marks = rw (add-one, drop-cons marks i d) in
    ap (λ l. map keyed_seen l ++ keys_cut (drop (i + 1) marks) behind) e
    ∙ ap (λ l. l ++ keys_cut (drop (i + 1) marks) behind) (map-append keyed_seen before (key ∷ []))
    ∙ append_assoc (map keyed_seen before) (keyed_seen key ∷ []) (keys_cut (drop (i + 1) marks) behind)
    ∙ (λ j. map keyed_seen before ++ (record { key = octets j; number = number j } ∷ keys_cut (drop (i + 1) marks) (left j)))
    ∙ ap (λ l. map keyed_seen before ++ keys_cut l rest) (sym first)

-- none is left
pub cut_all : (keys : List Keyed) (marks : List Mark) (i : ℕ) (rest : List ℕ) → length marks ≤ i → map keyed_seen keys ≡ map keyed_seen keys ++ keys_cut (drop i marks) rest
cut_all keys marks i rest le = sym (append-nil (map keyed_seen keys)) ∙ ap (λ l. map keyed_seen keys ++ keys_cut l rest) (sym (drop_all i marks le))
