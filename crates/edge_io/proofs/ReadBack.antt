-- A frame is read back.
use Rattle.std.proofs.Common.{◌≡◌, ℕ, ◌/◌, ◌%◌, List, [], ◌∷◌, ◌++◌, Option, Some, None, Result, Ok, Err, length, take, drop, refl, sym, ◌∙◌, ap, arith, length-append, take_at, drop_at}
use Rattle.std.proofs.lemmas.List.{append-nil}
use Rattle.edge_io.specs.Frame.{frame_octets, TakesFrame, TakesNone, TakesCut, IsCut, ReadsFrame, ReadsBack}
use Rattle.edge_io.specs.declared.frame.FrameFault.TheVariants.{ReadFault, Cut}
use Rattle.edge_io.specs.declared.frame.FrameError.{FrameError}
use Rattle.edge_io.specs.declared.frame.FrameError.TheVariants.{OutOfMemory, Fault}

-- lists that begin alike are of equal parts where the first parts are of one length
same_parts : (xs ys us vs : List ℕ) → length xs ≡ length us → xs ++ ys ≡ us ++ vs → (xs ≡ us) × (ys ≡ vs)
same_parts xs ys us vs long e = (
  sym (take_at xs ys (length xs) refl) ∙ ap (take (length xs)) e ∙ take_at us vs (length xs) (sym long),
  sym (drop_at xs ys (length xs) refl) ∙ ap (drop (length xs)) e ∙ drop_at us vs (length xs) (sym long),
)

-- two numbers of one quotient and one rest
same_number : (a b : ℕ) → a / 256 ≡ b / 256 → a % 256 ≡ b % 256 → a ≡ b
same_number a b high low = omega arith

whole_back : (message rest read : List ℕ) (after : Option (List ℕ)) → TakesFrame read (Some (frame_octets message ++ rest)) after → ReadsBack message rest (Ok (Some read)) after
whole_back message rest read None takes = absurd (let e = takes.taken in cc)
whole_back message rest read (Some left) takes =
    let e : frame_octets message ++ rest ≡ frame_octets read ++ left = (let f = takes.taken in cc) in
    let high : length message / 256 ≡ length read / 256 = cc in
    let low : length message % 256 ≡ length read % 256 = cc in
    let tails : message ++ rest ≡ read ++ left = cc in
    let parts = same_parts message rest read left (same_number (length message) (length read) high low) tails in
    (sym parts.0, ap Some (sym parts.1))

none_back : (message rest : List ℕ) (after : Option (List ℕ)) → TakesNone (Some (frame_octets message ++ rest)) after → ReadsBack message rest (Ok None) after
none_back message rest after takes = let e = takes.at_end in cc

-- a list of octets that is a frame with what follows is none that is cut
not_cut : (message rest octets : List ℕ) → frame_octets message ++ rest ≡ octets → IsCut octets → ⊥
not_cut message rest [] e is = is
not_cut message rest (high ∷ []) e is = cc
not_cut message rest (high ∷ low ∷ more) e is =
    let first : length message / 256 ≡ high = cc in
    let second : length message % 256 ≡ low = cc in
    let tail : message ++ rest ≡ more = cc in
    omega (arith, is, first, second, ap length tail, length-append message rest)

cut_back : (message rest : List ℕ) (after : Option (List ℕ)) → TakesCut (Some (frame_octets message ++ rest)) after → ReadsBack message rest (Err (Fault Cut)) after
cut_back message rest None takes = absurd (let e = takes.taken in cc)
cut_back message rest (Some left) takes =
    let empty : left ≡ [] = takes.at_end in
    let e : frame_octets message ++ rest ≡ takes.octets ++ left = (let f = takes.taken in cc) in
    not_cut message rest takes.octets (e ∙ ap (λ (l : List ℕ). takes.octets ++ l) empty ∙ append-nil takes.octets) takes.is_cut

pub read_back : (message rest : List ℕ) (read : Result (Option (List ℕ)) FrameError) (after : Option (List ℕ)) → ReadsFrame read (Some (frame_octets message ++ rest)) after → ReadsBack message rest read after
read_back message rest (Ok (Some read)) after takes = whole_back message rest read after takes
read_back message rest (Ok None) after takes = none_back message rest after takes
read_back message rest (Err OutOfMemory) after takes = tt
read_back message rest (Err (Fault ReadFault)) after takes = tt
read_back message rest (Err (Fault Cut)) after takes = cut_back message rest after takes
