-- What stands at a place of a message, in parts, and names where they stand in full.
use Rattle.std.proofs.Common.{◌≡◌, ℕ, ◌+◌, ◌≤◌, List, [], ◌∷◌, ◌++◌, length, take, drop, Ok, Err, MatchResult, refl, sym, ap, subst, ◌∙◌, arith, length-append}
use Rattle.std.specs.Prelude.{⊤}
use Rattle.std.specs.List.{flat_map, AllByRecursion}
use Rattle.std.proofs.Math.Seq.{take-add}
use Rattle.std.proofs.lemmas.List.{length-take, take_at, drop_at, drop-drop}
use Rattle.dns_name.specs.Grammar as grammar
use Rattle.dns_name.specs.Grammar.{HasRoom, GoesOn}
use Rattle.dns_name.specs.Labels.{IsLabel, IsName, label_octets, name_octets}
use Rattle.dns_name.specs.Reading.{NameOutcome, with_labels, with_after, name_at}
use Rattle.dns_name.specs.Standing.{Stands}
use Rattle.dns_name.proofs.GrammarLemmas.{name_stands, name_only}
use Rattle.dns_name.proofs.WireLemmas.{name_octets-cons}

-- two parts that stand one after the other
pub stands_both : (first second message : List ℕ) (at middle after : ℕ) → Stands first message at middle → Stands second message middle after → Stands (first ++ second) message at after
stands_both first second message at middle after a b =
    let rest = drop at message in
    let len = length-append first second in
    let moved : drop (length first) rest ≡ drop middle message = drop-drop (length first) at message ∙ ap (λ (n : ℕ). drop n message) (omega (arith, a.ends)) in
    record {
      begins =
          ap (λ (n : ℕ). take n rest) len
          ∙ take-add (length first) (length second) rest
          ∙ ap (λ (l : List ℕ). l ++ take (length second) (drop (length first) rest)) a.begins
          ∙ ap (λ (l : List ℕ). first ++ take (length second) l) moved
          ∙ ap (λ (l : List ℕ). first ++ l) b.begins;
      ends = omega (arith, a.ends, b.ends, len);
    }

-- the first of two parts
pub stands_first : (first second message : List ℕ) (at after : ℕ) → Stands (first ++ second) message at after → Stands first message at (at + length first)
stands_first first second message at after h =
    let rest = drop at message in
    let whole : take (length first) rest ++ take (length second) (drop (length first) rest) ≡ first ++ second = sym (take-add (length first) (length second) rest) ∙ ap (λ (n : ℕ). take n rest) (sym (length-append first second)) ∙ h.begins in
    let long : length first ≤ length rest = omega (arith, length-take (length (first ++ second)) rest, ap length h.begins, length-append first second) in
    let len : length (take (length first) rest) ≡ length first = omega (arith, length-take (length first) rest) in
    record {
      begins = sym (take_at (take (length first) rest) (take (length second) (drop (length first) rest)) (length first) len) ∙ ap (take (length first)) whole ∙ take_at first second (length first) refl;
      ends = refl;
    }

-- the second of two parts
pub stands_second : (first second message : List ℕ) (at after : ℕ) → Stands (first ++ second) message at after → Stands second message (at + length first) after
stands_second first second message at after h =
    let rest = drop at message in
    let whole : take (length first) rest ++ take (length second) (drop (length first) rest) ≡ first ++ second = sym (take-add (length first) (length second) rest) ∙ ap (λ (n : ℕ). take n rest) (sym (length-append first second)) ∙ h.begins in
    let long : length first ≤ length rest = omega (arith, length-take (length (first ++ second)) rest, ap length h.begins, length-append first second) in
    let len : length (take (length first) rest) ≡ length first = omega (arith, length-take (length first) rest) in
    let moved : drop (at + length first) message ≡ drop (length first) rest = ap (λ (n : ℕ). drop n message) (omega arith) ∙ sym (drop-drop (length first) at message) in
    record {
      begins = ap (take (length second)) moved ∙ sym (drop_at (take (length first) rest) (take (length second) (drop (length first) rest)) (length first) len) ∙ ap (drop (length first)) whole ∙ drop_at first second (length first) refl;
      ends = omega (arith, h.ends, length-append first second);
    }

-- what is written as a name stands there by the rules
written_goes_on : (message : List ℕ) (run used place : ℕ) (labels : List (List ℕ)) (after : ℕ) → AllByRecursion IsLabel labels → used + length (flat_map label_octets labels) ≤ 254
    → Stands (name_octets labels) message place after → GoesOn message run used place (Ok (labels, after))
written_goes_on message run used place [] after each room h = subst (λ (end : ℕ). GoesOn message run used place (Ok ([], end))) (omega (arith, h.ends)) (grammar.ends run used place h.begins)
written_goes_on message run used place (l ∷ ls) after each room h =
    let parts : name_octets (l ∷ ls) ≡ label_octets l ++ name_octets ls = name_octets-cons l ls in
    let whole : Stands (label_octets l ++ name_octets ls) message place after = rw (← parts) h in
    let first = stands_first (label_octets l) (name_octets ls) message place after whole in
    let second : Stands (name_octets ls) message (place + length l + 1) after = subst (λ (n : ℕ). Stands (name_octets ls) message n after) (omega arith) (stands_second (label_octets l) (name_octets ls) message place after whole) in
    let len = length-append (label_octets l) (flat_map label_octets ls) in
    let has : HasRoom used l = record { is_label = each.0; room = omega (arith, len) } in
    grammar.label run used place l (Ok (ls, after)) has first.begins (written_goes_on message run (used + length l + 1) (place + length l + 1) ls after each.1 (omega (arith, len)) second)

pub name_written : (name : List (List ℕ)) (message : List ℕ) (at after : ℕ) → IsName name → Stands (name_octets name) message at after → name_at message at ≡ Ok (name, after)
name_written name message at after is h =
    name_only message at (Ok (name, after)) (written_goes_on message at 0 at name after is.labels (omega (arith, is.short, length-append (flat_map label_octets name) (0 ∷ []))) h)

-- what is known of each name that is read
abbrev pub Of : (List (List ℕ) × ℕ → Type 0) → NameOutcome → Type 0
Of is outcome = MatchResult outcome is (λ fault. ⊤)

pub same_outcome : (o : NameOutcome) (x y : List (List ℕ) × ℕ) → o ≡ Ok x → o ≡ Ok y → x ≡ y
same_outcome o x y e f = cc

pub of_read : (is : List (List ℕ) × ℕ → Type 0) (o : NameOutcome) (x : List (List ℕ) × ℕ) → Of is o → o ≡ Ok x → is x
of_read is (Ok y) x h e = subst is (same_outcome (Ok y) y x refl e) h
of_read is (Err fault) x h e = absurd cc

-- labels that fit into a name of which `used` bytes are read
record Fits (used : ℕ) (x : List (List ℕ) × ℕ) : Type 0 where
  pub each : AllByRecursion IsLabel x.0
  pub room : used + length (flat_map label_octets x.0) ≤ 254

fits_more : (used : ℕ) (first : List ℕ) (o : NameOutcome) → HasRoom used first → Of (Fits (used + length first + 1)) o → Of (Fits used) (with_labels (first ∷ []) o)
fits_more used first (Ok (ls, after)) has h = record { each = (has.is_label, h.each); room = omega (arith, h.room, length-append (label_octets first) (flat_map label_octets ls)) }
fits_more used first (Err fault) has h = tt

fits_after : (used after : ℕ) (o : NameOutcome) → Of (Fits used) o → Of (Fits used) (with_after after o)
fits_after used after (Ok x) h = record { each = h.each; room = h.room }
fits_after used after (Err fault) h = tt

all_fits : (message : List ℕ) (run used place : ℕ) (o : NameOutcome) → GoesOn message run used place o → used ≤ 254 → Of (Fits used) o
all_fits message run used place o (grammar.ends _ _ _ begins) room = record { each = tt; room = omega arith }
all_fits message run used place o (grammar.label _ _ _ first others has begins rest) room =
    fits_more used first others has (all_fits message run (used + length first + 1) (place + length first + 1) others rest (omega (arith, has.room)))
all_fits message run used place o (grammar.pointer _ _ _ high low others h lt begins rest) room =
    fits_after used (place + 2) others (all_fits message (grammar.target_of high low) used (grammar.target_of high low) others rest room)
all_fits message run used place o (grammar.fails _ _ _ fault shows) room = tt

pub name_is : (name : List (List ℕ)) (message : List ℕ) (at after : ℕ) → name_at message at ≡ Ok (name, after) → IsName name
name_is name message at after e =
    let h = of_read (Fits 0) (name_at message at) (name, after) (all_fits message at 0 at (name_at message at) (name_stands message at) (omega arith)) e in
    record { labels = h.each; short = omega (arith, h.room, length-append (flat_map label_octets name) (0 ∷ [])) }

-- a name that stands in full
abbrev InFull : List ℕ → ℕ → List (List ℕ) × ℕ → Type 0
InFull message place x = Stands (name_octets x.0) message place x.1

full_more : (message : List ℕ) (place : ℕ) (first : List ℕ) (o : NameOutcome) → grammar.Begins (drop place message) (label_octets first) → Of (InFull message (place + length first + 1)) o → Of (InFull message place) (with_labels (first ∷ []) o)
full_more message place first (Ok (ls, after)) begins h =
    let parts : name_octets (first ∷ ls) ≡ label_octets first ++ name_octets ls = name_octets-cons first ls in
    let front : Stands (label_octets first) message place (place + length first + 1) = record { begins = begins; ends = omega arith } in
    rw parts (stands_both (label_octets first) (name_octets ls) message place (place + length first + 1) after front h)
full_more message place first (Err fault) begins h = tt

-- before the start of a message nothing stands that a pointer could lead to
all_full : (message : List ℕ) (run used place : ℕ) (o : NameOutcome) → GoesOn message run used place o → run ≡ 0 → Of (InFull message place) o
all_full message run used place o (grammar.ends _ _ _ begins) start = record { begins = begins; ends = refl }
all_full message run used place o (grammar.label _ _ _ first others has begins rest) start =
    full_more message place first others begins (all_full message run (used + length first + 1) (place + length first + 1) others rest start)
all_full message run used place o (grammar.pointer _ _ _ high low others h lt begins rest) start = absurd (omega arith)
all_full message run used place o (grammar.fails _ _ _ fault shows) start = tt

-- what is read at the start of a message stands there in full
pub name_in_full : (name : List (List ℕ)) (message : List ℕ) (after : ℕ) → name_at message 0 ≡ Ok (name, after) → Stands (name_octets name) message 0 after
name_in_full name message after e = of_read (InFull message 0) (name_at message 0) (name, after) (all_full message 0 0 0 (name_at message 0) (name_stands message 0) refl) e
