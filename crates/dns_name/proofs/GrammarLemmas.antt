-- The function that reads a name gives what stands there by the rules, and nothing else stands there.
use Rattle.std.proofs.Common.{◌≡◌, ℕ, zero, suc, ◌+◌, ◌-◌, ◌*◌, ◌≤◌, ◌<◌, inl, inr, true, false, cond, eqb, ltb, List, [], ◌∷◌, length, take, drop, Result, Ok, Err, MatchResult, refl, ap, ◌∙◌, arith}
use Rattle.std.proofs.lemmas.Bool.{cond_both, eqb-true, eqb-false, ltb-true, ltb-false, lt-ltb, le-ltb, ne_eqb}
use Rattle.std.proofs.lemmas.List.{length-take}
use Rattle.dns_name.specs.declared.fault.NameFault.{NameFault}
use Rattle.dns_name.specs.declared.fault.NameFault.TheVariants.{Short, LabelType, Pointer, TooLong}
use Rattle.dns_name.specs.Labels.{label_octets}
use Rattle.dns_name.specs.Reading as reading
use Rattle.dns_name.specs.Reading.{Piece, piece_at, pointer_at, NameOutcome, with_labels, with_after, ◌>>=◌, follow, name_from, name_at}
use Rattle.dns_name.specs.Grammar as grammar
use Rattle.dns_name.specs.Grammar.{Begins, HasRoom, Shows, target_of, GoesOn, NameAt}
use Rattle.dns_name.proofs.Loop.{one_piece, no_piece}

-- the bytes begin with this piece
abbrev pub IsPiece : ℕ → ℕ → List ℕ → Piece → Type 0
IsPiece run used bytes reading.end = Begins bytes (0 ∷ [])
IsPiece run used bytes (reading.label first) = HasRoom used first × Begins bytes (label_octets first)
IsPiece run used bytes (reading.pointer target) = (high : ℕ) × (low : ℕ) × (192 ≤ high) × (target ≡ target_of high low) × (target < run) × Begins bytes (high ∷ low ∷ [])

abbrev pub Says : ℕ → ℕ → List ℕ → Result Piece NameFault → Type 0
Says run used bytes r = MatchResult r (IsPiece run used bytes) (Shows run used bytes)

label_said : (run used n : ℕ) (rest : List ℕ) → 1 ≤ n → n ≤ 63 → used + n + 2 ≤ 255 → n ≤ length rest → Says run used (n ∷ rest) (Ok (reading.label (take n rest)))
label_said run used n rest low high room long =
    let len : length (take n rest) ≡ n = omega (arith, length-take n rest) in
    (record { is_label = record { not_empty = omega arith; short = omega arith }; room = omega arith }, rw len refl)

pointer_said : (run used n : ℕ) (rest : List ℕ) → 192 ≤ n → Says run used (n ∷ rest) (pointer_at run n rest)
pointer_said run used n [] high = inr (high, refl)
pointer_said run used n (low ∷ rest) high =
    let target = target_of n low in
    cond_both (ltb target run) (Ok (reading.pointer target)) (Err Pointer) (Says run used (n ∷ low ∷ rest))
    (λ e. (n, low, high, refl, ltb-true target run e, refl))
    (λ e. (high, ltb-false target run e))

room_said : (run used n : ℕ) (rest : List ℕ) → 1 ≤ n → n ≤ 63 → n ≤ length rest → Says run used (n ∷ rest) (cond (ltb 255 (used + n + 2)) (Err TooLong) (Ok (reading.label (take n rest))))
room_said run used n rest low high long =
    cond_both (ltb 255 (used + n + 2)) (Err TooLong) (Ok (reading.label (take n rest))) (Says run used (n ∷ rest))
    (λ e. (low, high, long, ltb-true 255 (used + n + 2) e))
    (λ e. label_said run used n rest low high (ltb-false 255 (used + n + 2) e) long)

small_said : (run used n : ℕ) (rest : List ℕ) → 1 ≤ n → n ≤ 63 → Says run used (n ∷ rest) (cond (ltb (length rest) n) (Err Short) (cond (ltb 255 (used + n + 2)) (Err TooLong) (Ok (reading.label (take n rest)))))
small_said run used n rest low high =
    cond_both (ltb (length rest) n) (Err Short) (cond (ltb 255 (used + n + 2)) (Err TooLong) (Ok (reading.label (take n rest)))) (Says run used (n ∷ rest))
    (λ e. inl (low, high, ltb-true (length rest) n e))
    (λ e. room_said run used n rest low high (ltb-false (length rest) n e))

large_said : (run used n : ℕ) (rest : List ℕ) → 64 ≤ n → Says run used (n ∷ rest) (cond (ltb n 192) (Err LabelType) (pointer_at run n rest))
large_said run used n rest high =
    cond_both (ltb n 192) (Err LabelType) (pointer_at run n rest) (Says run used (n ∷ rest))
    (λ e. (high, ltb-true n 192 e))
    (λ e. pointer_said run used n rest (ltb-false n 192 e))

pub piece_said : (run used : ℕ) (bytes : List ℕ) → Says run used bytes (piece_at run used bytes)
piece_said run used [] = tt
piece_said run used (n ∷ rest) =
    let small = cond (ltb (length rest) n) (Err Short) (cond (ltb 255 (used + n + 2)) (Err TooLong) (Ok (reading.label (take n rest)))) in
    let large = cond (ltb n 192) (Err LabelType) (pointer_at run n rest) in
    cond_both (eqb n 0) (Ok reading.end) (cond (ltb n 64) small large) (Says run used (n ∷ rest))
    (λ e. ap (λ (k : ℕ). k ∷ []) (eqb-true n 0 e))
    (λ e. let apart = eqb-false n 0 e in
    cond_both (ltb n 64) small large (Says run used (n ∷ rest))
    (λ s. small_said run used n rest (omega arith) (omega (arith, ltb-true n 64 s)))
    (λ s. large_said run used n rest (ltb-false n 64 s)))

-- what is read stands there
stands_next : (left : ℕ) (message : List ℕ) (run used place : ℕ) (r : Result Piece NameFault) → Says run used (drop place message) r → used ≤ 254 → 256 * run + 256 ≤ suc left + used
    → ((run used place : ℕ) → used ≤ 254 → 256 * run + 256 ≤ left + used → GoesOn message run used place (name_from left message run used place))
    → GoesOn message run used place (r >>= follow (name_from left message) run used place)
stands_next left message run used place (Err fault) says room enough go = grammar.fails run used place fault says
stands_next left message run used place (Ok reading.end) says room enough go = grammar.ends run used place says
stands_next left message run used place (Ok (reading.label first)) says room enough go =
    grammar.label run used place first (name_from left message run (used + length first + 1) (place + length first + 1)) says.0 says.1 (go run (used + length first + 1) (place + length first + 1) (omega (arith, says.0.room)) (omega arith))
stands_next left message run used place (Ok (reading.pointer target)) says room enough go =
    let rest : GoesOn message (target_of says.0 says.1) used (target_of says.0 says.1) (name_from left message target used target) = rw (← says.3) (go target used target room (omega (arith, says.4))) in
    grammar.pointer run used place says.0 says.1 (name_from left message target used target) says.2 (rw (← says.3) says.4) says.5 rest

pub stands_from : (left : ℕ) (message : List ℕ) (run used place : ℕ) → used ≤ 254 → 256 * run + 256 ≤ left + used → GoesOn message run used place (name_from left message run used place)
unfolding name_from
stands_from zero message run used place room enough = absurd (omega arith)
stands_from (suc left) message run used place room enough =
    stands_next left message run used place (piece_at run used (drop place message)) (piece_said run used (drop place message)) room enough (stands_from left message)

-- what reading gives stands there by the rules
pub name_stands : (message : List ℕ) (at : ℕ) → NameAt message at (name_at message at)
unfolding name_at
name_stands message at = stands_from (256 * at + 256) message at 0 at (omega arith) (omega arith)

-- what stands there is read
pub record Head (b : ℕ) (bs : List ℕ) (x : ℕ) (xs : List ℕ) : Type 0 where
  pub first : b ≡ x
  pub rest : take (length xs) bs ≡ xs

pub head : (b : ℕ) (bs : List ℕ) (x : ℕ) (xs : List ℕ) → Begins (b ∷ bs) (x ∷ xs) → Head b bs x xs
head b bs x xs h = record { first = cc; rest = cc }

end_is : (run used : ℕ) (bytes : List ℕ) → Begins bytes (0 ∷ []) → piece_at run used bytes ≡ Ok reading.end
end_is run used [] h = absurd cc
end_is run used (b ∷ bs) h = rw (head b bs 0 [] h).first refl

label_is : (run used : ℕ) (bytes first : List ℕ) → HasRoom used first → Begins bytes (label_octets first) → piece_at run used bytes ≡ Ok (reading.label first)
label_is run used [] first room h = absurd cc
label_is run used (b ∷ bs) first room h =
    let p = head b bs (length first) first h in
    let len = p.first in
    let low = room.is_label.not_empty in
    let high = room.is_label.short in
    let fits = room.room in
    let long : length first ≤ length bs = omega (arith, length-take (length first) bs, ap length p.rest) in
    let e1 : eqb b 0 ≡ false = ne_eqb b 0 (λ z. omega arith) in
    let e2 : ltb b 64 ≡ true = lt-ltb b 64 (omega arith) in
    let e3 : ltb (length bs) b ≡ false = le-ltb (length bs) b (omega arith) in
    let e4 : ltb 255 (used + b + 2) ≡ false = le-ltb 255 (used + b + 2) (omega arith) in
    rw (e1, e2, e3, e4) (ap (λ (l : List ℕ). Ok (reading.label l)) (ap (λ (n : ℕ). take n bs) len ∙ p.rest))

large_is : (run used n : ℕ) (bs : List ℕ) → 192 ≤ n → piece_at run used (n ∷ bs) ≡ pointer_at run n bs
large_is run used n bs high =
    let e1 : eqb n 0 ≡ false = ne_eqb n 0 (λ z. omega arith) in
    let e2 : ltb n 64 ≡ false = le-ltb n 64 (omega arith) in
    let e3 : ltb n 192 ≡ false = le-ltb n 192 high in
    rw (e1, e2, e3) refl

pointer_is : (run used : ℕ) (bytes : List ℕ) (high low : ℕ) → 192 ≤ high → target_of high low < run → Begins bytes (high ∷ low ∷ []) → piece_at run used bytes ≡ Ok (reading.pointer (target_of high low))
pointer_is run used [] high low h lt begins = absurd cc
pointer_is run used (b ∷ []) high low h lt begins = absurd cc
pointer_is run used (b ∷ c ∷ bs) high low h lt begins =
    let p = head b (c ∷ bs) high (low ∷ []) begins in
    let q = head c bs low [] p.rest in
    let e : ltb (target_of high low) run ≡ true = lt-ltb (target_of high low) run lt in
    ap (λ (n : ℕ). piece_at run used (n ∷ c ∷ bs)) p.first ∙ large_is run used high (c ∷ bs) h ∙ ap (λ (n : ℕ). pointer_at run high (n ∷ bs)) q.first ∙ rw e refl

small_is : (run used n : ℕ) (bs : List ℕ) → 1 ≤ n → n ≤ 63 → piece_at run used (n ∷ bs) ≡ cond (ltb (length bs) n) (Err Short) (cond (ltb 255 (used + n + 2)) (Err TooLong) (Ok (reading.label (take n bs))))
small_is run used n bs low high =
    let e1 : eqb n 0 ≡ false = ne_eqb n 0 (λ z. omega arith) in
    let e2 : ltb n 64 ≡ true = lt-ltb n 64 (omega arith) in
    rw (e1, e2) refl

fault_is : (run used : ℕ) (bytes : List ℕ) (fault : NameFault) → Shows run used bytes fault → piece_at run used bytes ≡ Err fault
fault_is run used [] Short s = refl
fault_is run used [] LabelType s = absurd s
fault_is run used [] TooLong s = absurd s
fault_is run used [] Pointer s = absurd s
fault_is run used (n ∷ bs) Short (inl s) =
    let e3 : ltb (length bs) n ≡ true = lt-ltb (length bs) n s.2 in
    small_is run used n bs s.0 s.1 ∙ rw e3 refl
fault_is run used (n ∷ bs) Short (inr s) = large_is run used n bs s.0 ∙ rw s.1 refl
fault_is run used (n ∷ bs) LabelType s =
    let low = s.0 in
    let e1 : eqb n 0 ≡ false = ne_eqb n 0 (λ z. omega arith) in
    let e2 : ltb n 64 ≡ false = le-ltb n 64 low in
    let e3 : ltb n 192 ≡ true = lt-ltb n 192 s.1 in
    rw (e1, e2, e3) refl
fault_is run used (n ∷ bs) TooLong s =
    let e3 : ltb (length bs) n ≡ false = le-ltb (length bs) n s.2 in
    let e4 : ltb 255 (used + n + 2) ≡ true = lt-ltb 255 (used + n + 2) s.3 in
    small_is run used n bs s.0 s.1 ∙ rw (e3, e4) refl
fault_is run used (n ∷ []) Pointer s = absurd s
fault_is run used (n ∷ low ∷ bs) Pointer s =
    let e : ltb (target_of n low) run ≡ false = le-ltb (target_of n low) run s.1 in
    large_is run used n (low ∷ bs) s.0 ∙ rw e refl

pub read_from : (message : List ℕ) (left : ℕ) (run used place : ℕ) (o : NameOutcome) → GoesOn message run used place o → used ≤ 254 → 256 * run + 256 ≤ left + used → name_from left message run used place ≡ o
read_from message left run used place o (grammar.ends _ _ _ begins) room enough = one_piece left message run used place reading.end (omega arith) (end_is run used (drop place message) begins)
read_from message left run used place o (grammar.label _ _ _ first others has begins rest) room enough =
    one_piece left message run used place (reading.label first) (omega arith) (label_is run used (drop place message) first has begins)
    ∙ ap (with_labels (first ∷ [])) (read_from message (left - 1) run (used + length first + 1) (place + length first + 1) others rest (omega (arith, has.room)) (omega arith))
read_from message left run used place o (grammar.pointer _ _ _ high low others h lt begins rest) room enough =
    one_piece left message run used place (reading.pointer (target_of high low)) (omega arith) (pointer_is run used (drop place message) high low h lt begins)
    ∙ ap (with_after (place + 2)) (read_from message (left - 1) (target_of high low) used (target_of high low) others rest room (omega arith))
read_from message left run used place o (grammar.fails _ _ _ fault shows) room enough = no_piece left message run used place fault (omega arith) (fault_is run used (drop place message) fault shows)

-- nothing else stands there by the rules
pub name_only : (message : List ℕ) (at : ℕ) (o : NameOutcome) → NameAt message at o → name_at message at ≡ o
unfolding name_at
name_only message at o h = read_from message (256 * at + 256) at 0 at o h (omega arith) (omega arith)
