-- A name as text.
use Rattle.std.proofs.Common.{◌≡◌, ℕ, ◌+◌, ◌<◌, ◌≤◌, Bool, true, false, cond, eqb, ltb, List, [], ◌∷◌, ◌++◌, length, get_or, Fits, w8, Ok, Err, refl, sym, ap, subst, ◌∙◌, arith, length-append}
use Rattle.std.specs.List.{flat_map, slice_split, onto_first, AllByRecursion}
use Rattle.std.proofs.lemmas.Bool.{and_parts, leb-true, le-ltb, lt-ltb}
use Rattle.std.proofs.lemmas.List.Elements.{All-from_recursion}
use Rattle.dns_name.specs.declared.fault.TextFault.TheVariants.{Empty, Label, Char, TooLong}
use Rattle.dns_name.specs.Labels.{IsLabel, IsName, label_octets, name_octets}
use Rattle.dns_name.specs.Text.{has_text_bytes, without_last_dot, split_at_dots, has_label_lengths, text_name}

-- with a length byte before each, the labels between the dots have one byte more than the text
octets_split : (p : ℕ → Bool) (text : List ℕ) → length (flat_map label_octets (slice_split p text)) ≡ length text + 1
octets_split p [] = refl
octets_split p (b ∷ bs) = one_more (p b) (slice_split p bs) (octets_split p bs) where
  one_more : (t : Bool) (parts : List (List ℕ)) → length (flat_map label_octets parts) ≡ length bs + 1 → length (flat_map label_octets (cond t ([] ∷ parts) (onto_first b parts))) ≡ length (b ∷ bs) + 1
  one_more true parts h = omega (arith, h)
  one_more false [] h = absurd (omega (arith, h))
  one_more false (part ∷ parts) h = omega (arith, h)

-- and two with the zero at the end
pub name_len-split : (text : List ℕ) → length (name_octets (split_at_dots text)) ≡ length text + 2
name_len-split text = omega (arith, octets_split (λ b. eqb b 46) text, length-append (flat_map label_octets (split_at_dots text)) (0 ∷ []))

pub labels_are : (labels : List (List ℕ)) → has_label_lengths labels ≡ true → AllByRecursion IsLabel labels
labels_are [] h = tt
labels_are (l ∷ ls) h =
    let both = and_parts _ _ h in
    let parts = and_parts _ _ both.0 in
    (record { not_empty = leb-true 1 (length l) parts.0; short = leb-true (length l) 63 parts.1 }, labels_are ls both.1)

-- the tests in their order
pub text_empty : (text labels : List ℕ) → labels ≡ without_last_dot text → eqb (length labels) 0 ≡ true → text_name text ≡ Err Empty
unfolding text_name
text_empty text labels e h =
    let empty : eqb (length (without_last_dot text)) 0 ≡ true = ap (λ (l : List ℕ). eqb (length l) 0) (sym e) ∙ h in
    rw empty refl

pub text_char : (text labels : List ℕ) → labels ≡ without_last_dot text → eqb (length labels) 0 ≡ false → has_text_bytes text ≡ false → text_name text ≡ Err Char
unfolding text_name
text_char text labels e h bytes =
    let empty : eqb (length (without_last_dot text)) 0 ≡ false = ap (λ (l : List ℕ). eqb (length l) 0) (sym e) ∙ h in
    rw (empty, bytes) refl

pub text_label : (text labels : List ℕ) → labels ≡ without_last_dot text → eqb (length labels) 0 ≡ false → has_text_bytes text ≡ true → has_label_lengths (split_at_dots labels) ≡ false → text_name text ≡ Err Label
unfolding text_name
text_label text labels e h bytes lengths =
    let empty : eqb (length (without_last_dot text)) 0 ≡ false = ap (λ (l : List ℕ). eqb (length l) 0) (sym e) ∙ h in
    let short : has_label_lengths (split_at_dots (without_last_dot text)) ≡ false = ap (λ (l : List ℕ). has_label_lengths (split_at_dots l)) (sym e) ∙ lengths in
    rw (empty, bytes, short) refl

pub text_long : (text labels : List ℕ) → labels ≡ without_last_dot text → eqb (length labels) 0 ≡ false → has_text_bytes text ≡ true → has_label_lengths (split_at_dots labels) ≡ true → 255 < length labels + 2 → text_name text ≡ Err TooLong
unfolding text_name
text_long text labels e h bytes lengths lt =
    let empty : eqb (length (without_last_dot text)) 0 ≡ false = ap (λ (l : List ℕ). eqb (length l) 0) (sym e) ∙ h in
    let short : has_label_lengths (split_at_dots (without_last_dot text)) ≡ true = ap (λ (l : List ℕ). has_label_lengths (split_at_dots l)) (sym e) ∙ lengths in
    let long : ltb 255 (length (name_octets (split_at_dots (without_last_dot text)))) ≡ true = lt-ltb _ _ (omega (arith, name_len-split (without_last_dot text), ap length e)) in
    rw (empty, bytes, short, long) refl

pub text_ok : (text labels : List ℕ) → labels ≡ without_last_dot text → eqb (length labels) 0 ≡ false → has_text_bytes text ≡ true → has_label_lengths (split_at_dots labels) ≡ true → length labels + 2 ≤ 255 → text_name text ≡ Ok (split_at_dots labels)
unfolding text_name
text_ok text labels e h bytes lengths le =
    let empty : eqb (length (without_last_dot text)) 0 ≡ false = ap (λ (l : List ℕ). eqb (length l) 0) (sym e) ∙ h in
    let short : has_label_lengths (split_at_dots (without_last_dot text)) ≡ true = ap (λ (l : List ℕ). has_label_lengths (split_at_dots l)) (sym e) ∙ lengths in
    let room : ltb 255 (length (name_octets (split_at_dots (without_last_dot text)))) ≡ false = le-ltb _ _ (omega (arith, name_len-split (without_last_dot text), ap length e)) in
    rw (empty, bytes, short, room) (ap (λ (l : List ℕ). Ok (split_at_dots l)) (sym e))

pub IsName-split : (labels : List ℕ) → has_label_lengths (split_at_dots labels) ≡ true → length labels + 2 ≤ 255 → IsName (split_at_dots labels)
IsName-split labels h le = record { labels = labels_are (split_at_dots labels) h; short = omega (arith, name_len-split labels) }

-- the length of one of the labels is a byte
pub label_fits : (labels : List (List ℕ)) (i : ℕ) (label : List ℕ) → AllByRecursion IsLabel labels → (i < length labels) × (label ≡ get_or labels i label) → Fits w8 (length label)
label_fits labels i label each at =
    let is_label : IsLabel label = subst IsLabel (sym at.1) (All-from_recursion IsLabel labels each i label at.0) in
    omega (arith, is_label.short)

-- all labels are written, and then the zero
pub all_written : (wire wire' : List ℕ) (written labels : List (List ℕ)) → wire' ≡ wire ++ 0 ∷ [] → wire ≡ flat_map label_octets written → written ≡ labels → wire' ≡ name_octets labels
all_written wire wire' written labels last so_far all = last ∙ ap (λ (bytes : List ℕ). bytes ++ 0 ∷ []) (so_far ∙ ap (flat_map label_octets) all)
