-- Names that go on at a place of which something is known.
use Rattle.std.proofs.Common.{◌≡◌, ℕ, zero, suc, ◌+◌, ◌-◌, ◌*◌, ◌≤◌, ◌<◌, Bool, true, false, ltb, Option, Some, unwrap_or, List, [], ◌∷◌, ◌++◌, length, take, drop, Ok, Err, refl, sym, ap, subst, ◌∙◌, append_assoc, arith, length-append}
use Rattle.std.specs.Prelude.{slice_get}
use Rattle.std.specs.List.{flat_map}
use Rattle.std.proofs.Math.Seq.{take-add}
use Rattle.std.proofs.lemmas.Bool.{ltb-true, ltb-false}
use Rattle.std.proofs.lemmas.List.{append-nil, length-take, take_at, drop_at, drop-drop}
use Rattle.dns_name.specs.declared.fault.NameFault.TheVariants.{TooLong}
use Rattle.dns_name.specs.declared.name_reader.Span.{Span}
use Rattle.dns_name.specs.Grammar as grammar
use Rattle.dns_name.specs.Grammar.{Begins, HasRoom, Shows, GoesOn, target_of}
use Rattle.dns_name.specs.Labels.{IsLabel, label_octets, name_octets}
use Rattle.dns_name.specs.Reading as reading
use Rattle.dns_name.specs.Reading.{NameOutcome, piece_at, with_labels, with_after, name_from, name_at}
use Rattle.dns_name.specs.Tails.{IsNameAt, IsTailAt, IsTail, AreTails}
use Rattle.dns_name.specs.Wire.{labels_in, IsWire}
use Rattle.dns_name.proofs.GrammarLemmas.{head, piece_said, stands_from, read_from, name_stands}
use Rattle.dns_name.proofs.Loop.{join_outcome, HasRead, HasRead-pointer, HasRead-ends, HasWalked, one_piece}
use Rattle.dns_name.proofs.PartLemmas.{octets_len, octets-append}
use Rattle.dns_name.proofs.Standing.{Of, of_read, same_outcome, name_is}
use Rattle.dns_name.proofs.WireLemmas.{name_octets-cons, labels_in-octets, IsWire-octets}

-- this stands there, in a name of which so many bytes are read
abbrev Goes : List ℕ → ℕ → ℕ → ℕ → List (List ℕ) × ℕ → Type 0
Goes message run used place x = GoesOn message run used place (Ok x)

goes_label : (message : List ℕ) (run used place : ℕ) (first : List ℕ) (others : NameOutcome) → HasRoom used first → Begins (drop place message) (label_octets first)
    → Of (Goes message run (used + length first + 1) (place + length first + 1)) others → Of (Goes message run used place) (with_labels (first ∷ []) others)
goes_label message run used place first (Ok x) has begins rest = grammar.label run used place first (Ok x) has begins rest
goes_label message run used place first (Err fault) has begins rest = tt

goes_pointer : (message : List ℕ) (run used place high low : ℕ) (others : NameOutcome) → 192 ≤ high → target_of high low < run → Begins (drop place message) (high ∷ low ∷ [])
    → Of (Goes message (target_of high low) used (target_of high low)) others → Of (Goes message run used place) (with_after (place + 2) others)
goes_pointer message run used place high low (Ok x) h lt begins rest = grammar.pointer run used place high low (Ok x) h lt begins rest
goes_pointer message run used place high low (Err fault) h lt begins rest = tt

-- with labels that began later, and fewer bytes before, the same stands there
pub looser : (message : List ℕ) (run used place : ℕ) (o : NameOutcome) → GoesOn message run used place o → (run' used' : ℕ) → run ≤ run' → used' ≤ used → Of (Goes message run' used' place) o
looser message run used place o (grammar.ends _ _ _ begins) run' used' r u = grammar.ends run' used' place begins
looser message run used place o (grammar.label _ _ _ first others has begins rest) run' used' r u =
    goes_label message run' used' place first others (record { is_label = has.is_label; room = omega (arith, has.room) }) begins
    (looser message run (used + length first + 1) (place + length first + 1) others rest run' (used' + length first + 1) r (omega arith))
looser message run used place o (grammar.pointer _ _ _ high low others h lt begins rest) run' used' r u =
    goes_pointer message run' used' place high low others h (omega (arith, lt)) begins
    (looser message (target_of high low) used (target_of high low) others rest (target_of high low) used' (omega arith) u)
looser message run used place o (grammar.fails _ _ _ fault shows) run' used' r u = tt

-- where there is room for all labels, the same stands there
abbrev Fits : List ℕ → ℕ → ℕ → ℕ → List (List ℕ) × ℕ → Type 0
Fits message run used place x = used + length (flat_map label_octets x.0) ≤ 254 → GoesOn message run used place (Ok x)

fits_label : (message : List ℕ) (run used place : ℕ) (first : List ℕ) (others : NameOutcome) → IsLabel first → Begins (drop place message) (label_octets first)
    → Of (Fits message run (used + length first + 1) (place + length first + 1)) others → Of (Fits message run used place) (with_labels (first ∷ []) others)
fits_label message run used place first (Ok x) is begins rest = λ room.
    let len = length-append (label_octets first) (flat_map label_octets x.0) in
    grammar.label run used place first (Ok x) (record { is_label = is; room = omega (arith, len, room) }) begins (rest (omega (arith, len, room)))
fits_label message run used place first (Err fault) is begins rest = tt

fits_pointer : (message : List ℕ) (run used place high low : ℕ) (others : NameOutcome) → 192 ≤ high → target_of high low < run → Begins (drop place message) (high ∷ low ∷ [])
    → Of (Fits message (target_of high low) used (target_of high low)) others → Of (Fits message run used place) (with_after (place + 2) others)
fits_pointer message run used place high low (Ok x) h lt begins rest = λ room. grammar.pointer run used place high low (Ok x) h lt begins (rest room)
fits_pointer message run used place high low (Err fault) h lt begins rest = tt

fits : (message : List ℕ) (run used place : ℕ) (o : NameOutcome) → GoesOn message run used place o → (used' : ℕ) → Of (Fits message run used' place) o
fits message run used place o (grammar.ends _ _ _ begins) used' = λ room. grammar.ends run used' place begins
fits message run used place o (grammar.label _ _ _ first others has begins rest) used' =
    fits_label message run used' place first others has.is_label begins (fits message run (used + length first + 1) (place + length first + 1) others rest (used' + length first + 1))
fits message run used place o (grammar.pointer _ _ _ high low others h lt begins rest) used' =
    fits_pointer message run used' place high low others h lt begins (fits message (target_of high low) used (target_of high low) others rest used')
fits message run used place o (grammar.fails _ _ _ fault shows) used' = tt

-- where there is none, the name is too long
abbrev Exceeds : List ℕ → ℕ → ℕ → ℕ → List (List ℕ) × ℕ → Type 0
Exceeds message run used place x = used ≤ 254 → 254 < used + length (flat_map label_octets x.0) → GoesOn message run used place (Err TooLong)

shows_too_long : (run used : ℕ) (bytes first : List ℕ) → IsLabel first → Begins bytes (label_octets first) → 255 < used + length first + 2 → Shows run used bytes TooLong
shows_too_long run used [] first is begins long = absurd cc
shows_too_long run used (b ∷ bs) first is begins long =
    let p = head b bs (length first) first begins in
    let len = p.first in
    let whole : length first ≤ length bs = omega (arith, length-take (length first) bs, ap length p.rest) in
    (omega (arith, len, is.not_empty), omega (arith, len, is.short), omega (arith, len, whole), omega (arith, len, long))

exceeds_here : (message : List ℕ) (run used place : ℕ) (first : List ℕ) (x : List (List ℕ) × ℕ) (over : Bool) → ltb 255 (used + length first + 2) ≡ over → IsLabel first → Begins (drop place message) (label_octets first)
    → Exceeds message run (used + length first + 1) (place + length first + 1) x → 254 < used + length (flat_map label_octets (first ∷ x.0)) → GoesOn message run used place (Err TooLong)
exceeds_here message run used place first x true test is begins rest long =
    grammar.fails run used place TooLong (shows_too_long run used (drop place message) first is begins (ltb-true 255 (used + length first + 2) test))
exceeds_here message run used place first x false test is begins rest long =
    let room = ltb-false 255 (used + length first + 2) test in
    let len = length-append (label_octets first) (flat_map label_octets x.0) in
    grammar.label run used place first (Err TooLong) (record { is_label = is; room = omega (arith, room) }) begins (rest (omega (arith, room)) (omega (arith, len, long)))

exceeds_label : (message : List ℕ) (run used place : ℕ) (first : List ℕ) (others : NameOutcome) → IsLabel first → Begins (drop place message) (label_octets first)
    → Of (Exceeds message run (used + length first + 1) (place + length first + 1)) others → Of (Exceeds message run used place) (with_labels (first ∷ []) others)
exceeds_label message run used place first (Ok x) is begins rest = λ small long. exceeds_here message run used place first x (ltb 255 (used + length first + 2)) refl is begins rest long
exceeds_label message run used place first (Err fault) is begins rest = tt

exceeds_pointer : (message : List ℕ) (run used place high low : ℕ) (others : NameOutcome) → 192 ≤ high → target_of high low < run → Begins (drop place message) (high ∷ low ∷ [])
    → Of (Exceeds message (target_of high low) used (target_of high low)) others → Of (Exceeds message run used place) (with_after (place + 2) others)
exceeds_pointer message run used place high low (Ok x) h lt begins rest = λ small long. grammar.pointer run used place high low (Err TooLong) h lt begins (rest small long)
exceeds_pointer message run used place high low (Err fault) h lt begins rest = tt

exceeds : (message : List ℕ) (run used place : ℕ) (o : NameOutcome) → GoesOn message run used place o → (used' : ℕ) → Of (Exceeds message run used' place) o
exceeds message run used place o (grammar.ends _ _ _ begins) used' = λ small long. absurd (omega arith)
exceeds message run used place o (grammar.label _ _ _ first others has begins rest) used' =
    exceeds_label message run used' place first others has.is_label begins (exceeds message run (used + length first + 1) (place + length first + 1) others rest (used' + length first + 1))
exceeds message run used place o (grammar.pointer _ _ _ high low others h lt begins rest) used' =
    exceeds_pointer message run used' place high low others h lt begins (exceeds message (target_of high low) used (target_of high low) others rest used')
exceeds message run used place o (grammar.fails _ _ _ fault shows) used' = tt

-- a known name behind a pointer is read with the labels before it, where there is room
known_fits : (message : List ℕ) (at target used : ℕ) (labels : List (List ℕ)) (end : ℕ) (tail : List (List ℕ)) → HasRead message at target used target labels (Some end) → IsNameAt message target tail
    → used + length (name_octets tail) ≤ 255 → name_at message at ≡ Ok (labels ++ tail, end)
known_fits message at target used labels end tail h known room =
    let goes : GoesOn message target used target (Ok (tail, known.0)) = of_read (Fits message target used target) (name_at message target) (tail, known.0) (fits message target 0 target (name_at message target) (name_stands message target) used) known.1 (omega (arith, room, octets_len tail)) in
    sym h.so_far ∙ ap (join_outcome labels (Some end)) (read_from message h.left target used target (Ok (tail, known.0)) goes (omega (arith, h.room)) (omega (arith, h.enough)))

-- and the name is too long where there is none
known_too_long : (message : List ℕ) (at target used : ℕ) (labels : List (List ℕ)) (end : ℕ) (tail : List (List ℕ)) → HasRead message at target used target labels (Some end) → IsNameAt message target tail
    → 255 < used + length (name_octets tail) → name_at message at ≡ Err TooLong
known_too_long message at target used labels end tail h known room =
    let goes : GoesOn message target used target (Err TooLong) = of_read (Exceeds message target used target) (name_at message target) (tail, known.0) (exceeds message target 0 target (name_at message target) (name_stands message target) used) known.1 (omega (arith, h.room)) (omega (arith, room, octets_len tail)) in
    sym h.so_far ∙ ap (join_outcome labels (Some end)) (read_from message h.left target used target (Err TooLong) goes (omega (arith, h.room)) (omega (arith, h.enough)))

-- the bytes are those of the name at a place, in full, and that is the place after it
pub record IsWhole (message : List ℕ) (at : ℕ) (wire : List ℕ) (end : ℕ) : Type 0 where
  pub name : List (List ℕ)
  pub wire_is : wire ≡ name_octets name
  pub read : name_at message at ≡ Ok (name, end)

pub IsWhole-wire : (message : List ℕ) (at : ℕ) (wire : List ℕ) (end : ℕ) → IsWhole message at wire end → IsWire wire
IsWhole-wire message at wire end h = IsWire-octets wire h.name h.wire_is (name_is h.name message at end h.read)

pub IsWhole-read : (message : List ℕ) (at : ℕ) (wire : List ℕ) (end : ℕ) → IsWhole message at wire end → name_at message at ≡ Ok (labels_in wire, end)
IsWhole-read message at wire end h = h.read ∙ ap (λ (name : List (List ℕ)). Ok (name, end)) (sym (labels_in-octets wire h.name h.wire_is (name_is h.name message at end h.read)))

pub whole_by : (message : List ℕ) (at run used place : ℕ) (wire : List ℕ) (after : Option ℕ) (target : ℕ) (tail wire' : List ℕ) (end : ℕ) → wire' ≡ wire ++ tail → end ≡ unwrap_or after (place + 2) → used + length tail ≤ 255
    → HasWalked message at run used place wire after → target < run → piece_at run used (drop place message) ≡ Ok (reading.pointer target) → IsTailAt message target tail → IsWhole message at wire' end
whole_by message at run used place wire after target tail wire' end w e room h earlier piece known =
    let read : HasRead message at target used target h.labels (Some end) = rw e (HasRead-pointer message at run used place h.labels after target h.read earlier piece) in
    let short : used + length (name_octets known.0) ≤ 255 = omega (arith, room, ap length known.2) in
    record {
      name = h.labels ++ known.0;
      wire_is = w ∙ ap (λ (bytes : List ℕ). bytes ++ tail) h.wire_is ∙ ap (λ (bytes : List ℕ). flat_map label_octets h.labels ++ bytes) known.2 ∙ sym (octets-append h.labels known.0);
      read = known_fits message at target used h.labels end known.0 read known.1 short;
    }

pub too_long_by : (message : List ℕ) (at run used place : ℕ) (wire : List ℕ) (after : Option ℕ) (target : ℕ) (tail : List ℕ) → 255 < used + length tail
    → HasWalked message at run used place wire after → target < run → piece_at run used (drop place message) ≡ Ok (reading.pointer target) → IsTailAt message target tail → name_at message at ≡ Err TooLong
too_long_by message at run used place wire after target tail long h earlier piece known =
    known_too_long message at target used h.labels (unwrap_or after (place + 2)) known.0 (HasRead-pointer message at run used place h.labels after target h.read earlier piece) known.1 (omega (arith, long, ap length known.2))

-- a run of labels that is copied whole, and what follows it
run_more : (message front : List ℕ) (run place place' : ℕ) → run ≤ place → place' ≡ place + length front → Begins (drop place message) front
    → take (place' - run) (drop run message) ≡ take (place - run) (drop run message) ++ front
run_more message front run place place' h e begins =
    let n = place - run in
    let total : place' - run ≡ n + length front = omega arith in
    let there : drop n (drop run message) ≡ drop place message = drop-drop n run message ∙ ap (λ (k : ℕ). drop k message) (omega arith) in
    ap (λ (k : ℕ). take k (drop run message)) total ∙ take-add n (length front) (drop run message)
    ∙ ap (λ (l : List ℕ). take n (drop run message) ++ take (length front) l) there ∙ ap (λ (l : List ℕ). take n (drop run message) ++ l) begins

-- what the bytes begin with, where a label comes next
label_begins : (run used : ℕ) (bytes first : List ℕ) → piece_at run used bytes ≡ Ok (reading.label first) → Begins bytes (label_octets first)
label_begins run used bytes first e = (rw e at (piece_said run used bytes)).1

end_begins : (run used : ℕ) (bytes : List ℕ) → piece_at run used bytes ≡ Ok reading.end → Begins bytes (0 ∷ [])
end_begins run used bytes e = rw e at (piece_said run used bytes)

-- a zero ends the name
pub whole_end : (message : List ℕ) (at run used place : ℕ) (wire : List ℕ) (after : Option ℕ) (wire' : List ℕ) (end : ℕ) → wire' ≡ wire ++ take (place + 1 - run) (drop run message) → end ≡ unwrap_or after (place + 1) → run ≤ place
    → HasWalked message at run used place (wire ++ take (place - run) (drop run message)) after → piece_at run used (drop place message) ≡ Ok reading.end → IsWhole message at wire' end
whole_end message at run used place wire after wire' end w e order h piece =
    let so_far = take (place - run) (drop run message) in
    let more : take (place + 1 - run) (drop run message) ≡ so_far ++ 0 ∷ [] = run_more message (0 ∷ []) run place (place + 1) order refl (end_begins run used (drop place message) piece) in
    record {
      name = h.labels;
      wire_is = w ∙ ap (λ (bytes : List ℕ). wire ++ bytes) more ∙ sym (append_assoc wire so_far (0 ∷ [])) ∙ ap (λ (bytes : List ℕ). bytes ++ 0 ∷ []) h.wire_is;
      read = HasRead-ends message at run used place h.labels after h.read piece ∙ ap (λ (n : ℕ). Ok (h.labels, n)) (sym e);
    }

pub run_label : (message wire : List ℕ) (run used place : ℕ) (first : List ℕ) (place' : ℕ) → run ≤ place → place' ≡ place + length first + 1 → piece_at run used (drop place message) ≡ Ok (reading.label first)
    → wire ++ take (place' - run) (drop run message) ≡ ((wire ++ take (place - run) (drop run message)) ++ length first ∷ []) ++ first
run_label message wire run used place first place' h e piece =
    let so_far = take (place - run) (drop run message) in
    ap (λ (l : List ℕ). wire ++ l) (run_more message (label_octets first) run place place' h (omega (arith, e)) (label_begins run used (drop place message) first piece))
    ∙ sym (append_assoc wire so_far (label_octets first)) ∙ sym (append_assoc (wire ++ so_far) (length first ∷ []) first)

-- no label is copied yet
pub run_none : (message wire : List ℕ) (place : ℕ) → wire ++ take (place - place) (drop place message) ≡ wire
run_none message wire place =
    let none : place - place ≡ 0 = omega arith in
    ap (λ (n : ℕ). wire ++ take n (drop place message)) none ∙ append-nil wire

-- the name behind a label, and behind a pointer
record IsBehind (message : List ℕ) (next : ℕ) (name : List (List ℕ)) (first : List ℕ) : Type 0 where
  others : List (List ℕ)
  is : name ≡ first ∷ others
  stands : IsNameAt message next others

taken_label : (message : List ℕ) (next : ℕ) (first : List ℕ) (o : NameOutcome) (name : List (List ℕ)) (after : ℕ) → with_labels (first ∷ []) o ≡ Ok (name, after)
    → Of (Goes message next 0 next) o → IsBehind message next name first
unfolding name_at
taken_label message next first (Ok x) name after e goes =
    let same : (first ∷ x.0, x.1) ≡ (name, after) = same_outcome (Ok (first ∷ x.0, x.1)) (first ∷ x.0, x.1) (name, after) refl e in
    record {
      others = x.0;
      is = sym (ap (λ (y : List (List ℕ) × ℕ). y.0) same);
      stands = (x.1, read_from message (256 * next + 256) next 0 next (Ok x) goes (omega arith) (omega arith));
    }
taken_label message next first (Err fault) name after e goes = absurd cc

behind_label : (message : List ℕ) (place : ℕ) (name : List (List ℕ)) (first : List ℕ) → IsNameAt message place name → piece_at place 0 (drop place message) ≡ Ok (reading.label first) → IsLabel first
    → IsBehind message (place + length first + 1) name first
unfolding name_at
behind_label message place name first known piece is =
    let left = 256 * place + 256 - 1 in
    let next = place + length first + 1 in
    let used = 0 + length first + 1 in
    let o = name_from left message place used next in
    let high = is.short in
    let goes : GoesOn message place used next o = stands_from left message place used next (omega arith) (omega arith) in
    let e : with_labels (first ∷ []) o ≡ Ok (name, known.0) = sym (one_piece (256 * place + 256) message place 0 place (reading.label first) (omega arith) piece) ∙ known.1 in
    taken_label message next first o name known.0 e (looser message place used next o goes next 0 (omega arith) (omega arith))

taken_pointer : (message : List ℕ) (target end : ℕ) (o : NameOutcome) (name : List (List ℕ)) (after : ℕ) → with_after end o ≡ Ok (name, after) → name_at message target ≡ o → IsNameAt message target name
taken_pointer message target end (Ok x) name after e is =
    let same : (x.0, end) ≡ (name, after) = same_outcome (Ok (x.0, end)) (x.0, end) (name, after) refl e in
    (x.1, is ∙ ap (λ (n : List (List ℕ)). Ok (n, x.1)) (ap (λ (y : List (List ℕ) × ℕ). y.0) same))
taken_pointer message target end (Err fault) name after e is = absurd cc

behind_pointer : (message : List ℕ) (place target : ℕ) (name : List (List ℕ)) → IsNameAt message place name → piece_at place 0 (drop place message) ≡ Ok (reading.pointer target) → target < place
    → IsNameAt message target name
unfolding name_at
behind_pointer message place target name known piece earlier =
    let left = 256 * place + 256 - 1 in
    let o = name_from left message target 0 target in
    let goes : GoesOn message target 0 target o = stands_from left message target 0 target (omega arith) (omega arith) in
    let e : with_after (place + 2) o ≡ Ok (name, known.0) = sym (one_piece (256 * place + 256) message place 0 place (reading.pointer target) (omega arith) piece) ∙ known.1 in
    taken_pointer message target (place + 2) o name known.0 e (read_from message (256 * target + 256) target 0 target o goes (omega arith) (omega arith))

-- the octets of the name behind a label are behind those of the label
pub tail_label : (message octets : List ℕ) (place from : ℕ) (first : List ℕ) → IsTail message octets place from (length octets) → piece_at place 0 (drop place message) ≡ Ok (reading.label first) → IsLabel first
    → IsTail message octets (place + length first + 1) (from + length first + 1) (length octets)
tail_label message octets place from first h piece is =
    let next = behind_label message place h.name first h.stands piece is in
    let cut : name_octets h.name ≡ label_octets first ++ name_octets next.others = ap name_octets next.is ∙ name_octets-cons first next.others in
    let len = length-append h.before (label_octets first) in
    record {
      name = next.others;
      stands = next.stands;
      before = h.before ++ label_octets first;
      behind = h.behind;
      begins = omega (arith, h.begins, len);
      ends = omega (arith, h.ends, len, ap length cut, length-append (label_octets first) (name_octets next.others));
      are = h.are ∙ ap (λ (l : List ℕ). h.before ++ (l ++ h.behind)) cut ∙ ap (λ (l : List ℕ). h.before ++ l) (append_assoc (label_octets first) (name_octets next.others) h.behind)
          ∙ sym (append_assoc h.before (label_octets first) (name_octets next.others ++ h.behind));
    }

pub tail_pointer : (message octets : List ℕ) (place from target : ℕ) → IsTail message octets place from (length octets) → piece_at place 0 (drop place message) ≡ Ok (reading.pointer target) → target < place
    → IsTail message octets target from (length octets)
tail_pointer message octets place from target h piece earlier =
    record { name = h.name; stands = behind_pointer message place target h.name h.stands piece earlier; before = h.before; behind = h.behind; begins = h.begins; ends = h.ends; are = h.are }

-- what is known stays known with more octets and spans
pub IsTail-octets : (message octets : List ℕ) (place from to : ℕ) → IsTail message octets place from to → IsTailAt message place (take (to - from) (drop from octets))
IsTail-octets message octets place from to h =
    let own = name_octets h.name in
    let rest : drop from octets ≡ own ++ h.behind = ap (drop from) h.are ∙ drop_at h.before (own ++ h.behind) from (sym h.begins) in
    let len : length own ≡ to - from = omega (arith, h.begins, h.ends) in
    (h.name, h.stands, ap (take (to - from)) rest ∙ take_at own h.behind (to - from) len)

IsTail-more : (message octets more : List ℕ) (place from to : ℕ) → IsTail message octets place from to → IsTail message (octets ++ more) place from to
IsTail-more message octets more place from to h = record {
  name = h.name;
  stands = h.stands;
  before = h.before;
  behind = h.behind ++ more;
  begins = h.begins;
  ends = h.ends;
  are = ap (λ (l : List ℕ). l ++ more) h.are ∙ append_assoc h.before (name_octets h.name ++ h.behind) more ∙ ap (λ (l : List ℕ). h.before ++ l) (append_assoc (name_octets h.name) h.behind more);
}

pub tails_more : (message octets more : List ℕ) (spans : List Span) → AreTails message octets spans → AreTails message (octets ++ more) spans
tails_more message octets more [] h = tt
tails_more message octets more (span ∷ spans) h = (IsTail-more message octets more span.place span.from span.to h.0, tails_more message octets more spans h.1)

pub tails_push : (message octets : List ℕ) (spans : List Span) (span : Span) → AreTails message octets spans → IsTail message octets span.place span.from span.to → AreTails message octets (spans ++ span ∷ [])
tails_push message octets [] span h t = (t, tt)
tails_push message octets (x ∷ xs) span h t = (h.0, tails_push message octets xs span h.1 t)

pub tail_found : (message octets : List ℕ) (spans : List Span) (i : ℕ) (span : Span) → AreTails message octets spans → slice_get spans i ≡ Some span
    → IsTailAt message span.place (take (span.to - span.from) (drop span.from octets))
tail_found message octets [] i span h e = absurd cc
tail_found message octets (x ∷ xs) zero span h e =
    let same : x ≡ span = cc in
    subst (λ (s : Span). IsTailAt message s.place (take (s.to - s.from) (drop s.from octets))) same (IsTail-octets message octets x.place x.from x.to h.0)
tail_found message octets (x ∷ xs) (suc i) span h e = tail_found message octets xs i span h.1 e

-- a name that is put behind the octets
pub tail_new : (message octets octets' : List ℕ) (at from : ℕ) (name : List (List ℕ)) (own : List ℕ) → from ≡ length octets → IsNameAt message at name → own ≡ name_octets name → octets' ≡ octets ++ own → IsTail message octets' at from (length octets')
tail_new message octets octets' at from name own begins stands is e = record {
  name = name;
  stands = stands;
  before = octets;
  behind = [];
  begins = begins;
  ends = ap length e ∙ length-append octets own ∙ ap (λ (l : List ℕ). length octets + length l) is;
  are = e ∙ ap (λ (l : List ℕ). octets ++ l) (is ∙ sym (append-nil (name_octets name)));
}
