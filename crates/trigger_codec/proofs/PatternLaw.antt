-- Patterns and the last label are read back from lower case.
use Rattle.std.proofs.Common.{◌≡◌, ℕ, ◌-◌, List, [], ◌∷◌, ◌++◌, length, take, map, Bool, true, false, ◌&&◌, eqb, Option, Some, refl, sym, ap, ◌∙◌, arith, length-append}
use Rattle.std.specs.Prelude.{codes, slice_get, if◌then◌else◌}
use Rattle.std.specs.Char.{to_ascii_lowercase}
use Rattle.std.specs.Str.{bytes_eq}
use Rattle.std.proofs.Math.Bool.{and-false}
use Rattle.std.proofs.lemmas.Bool.Decides.{nat_tests}
use Rattle.std.proofs.lemmas.List.{take-map, take_at}
use Rattle.std.proofs.lemmas.Slice.Eq.{bytes_eq-Decides}
use Rattle.std.proofs.lemmas.Str.Ascii.{lowercase-lowercase}
use Rattle.dns_name.specs.Labels.{lowered}
use Rattle.dns_name.specs.Alike.{PlainPattern}
use Rattle.trigger_codec.specs.Canonical.{pattern_labels}
use Rattle.trigger_codec.specs.Decode.{pattern_read, labels_trigger, by_last, by_marker}
use Rattle.trigger_codec.specs.Trigger.{Marker, marker_of, is_asterisk, client_ip, response_ip, nsip, nsdname, unknown, plain}

abbrev pub lower_case : List ℕ → List ℕ
lower_case label = map to_ascii_lowercase label

lower_case-lower_case : (label : List ℕ) → lower_case (lower_case label) ≡ lower_case label
lower_case-lower_case [] = refl
lower_case-lower_case (b ∷ bytes) = rw (lowercase-lowercase b, lower_case-lower_case bytes) refl

lowered-lowered : (name : List (List ℕ)) → lowered (lowered name) ≡ lowered name
lowered-lowered [] = refl
lowered-lowered (l ∷ ls) = rw (lower_case-lower_case l, lowered-lowered ls) refl

star_lower_case : (c : ℕ) → eqb (to_ascii_lowercase c) 42 ≡ eqb c 42
star_lower_case c = grind (arith, nat_tests)

-- lower case makes no `*` and takes none away
is_asterisk-lower_case : (label : List ℕ) → is_asterisk (lower_case label) ≡ is_asterisk label
is_asterisk-lower_case [] = refl
is_asterisk-lower_case (c ∷ []) = ap (λ (b : Bool). b && true) (star_lower_case c)
is_asterisk-lower_case (c ∷ d ∷ ds) = and-false (eqb (to_ascii_lowercase c) 42) ∙ sym (and-false (eqb c 42))

asterisk_is : (label : List ℕ) → is_asterisk label ≡ true → label ≡ codes "*"
asterisk_is label h = (bytes_eq-Decides label (codes "*")).0 h

-- what the last label names doesn't depend on case
judged : List ℕ → List ℕ → Marker
judged low front =
    if bytes_eq low (codes "rpz-client-ip") then client_ip
    else (if bytes_eq low (codes "rpz-ip") then response_ip
    else (if bytes_eq low (codes "rpz-nsip") then nsip
    else (if bytes_eq low (codes "rpz-nsdname") then nsdname
    else (if bytes_eq front (codes "rpz-") then unknown
    else plain))))

pub marker-lower_case : (label : List ℕ) → marker_of (lower_case label) ≡ marker_of label
unfolding judged
marker-lower_case label =
    let low = lower_case-lower_case label in
    let front : lower_case (take 4 (lower_case label)) ≡ lower_case (take 4 label) = ap lower_case (take-map to_ascii_lowercase 4 label) ∙ lower_case-lower_case (take 4 label) in
    ap (λ (l : List ℕ). judged l (lower_case (take 4 (lower_case label)))) low ∙ ap (judged (lower_case label)) front

-- a pattern's labels are those that it was read from, in lower case
labels_case : (b : Bool) (first : List ℕ) (others : List (List ℕ)) → is_asterisk first ≡ b → pattern_labels (if b then record { base = lowered others; wild = true } else record { base = lowered (first ∷ others); wild = false }) ≡ lowered (first ∷ others)
labels_case true first others h = ap (λ (l : List ℕ). lower_case l ∷ lowered others) (sym (asterisk_is first h))
labels_case false first others h = refl

pub pattern_labels-read : (labels : List (List ℕ)) → pattern_labels (pattern_read labels) ≡ lowered labels
pattern_labels-read [] = refl
pattern_labels-read (first ∷ others) = labels_case (is_asterisk first) first others refl

abbrev choose : Bool → List (List ℕ) → List (List ℕ) → PlainPattern
choose b others whole = if b then record { base = others; wild = true } else record { base = whole; wild = false }

pub pattern_read-lowered : (labels : List (List ℕ)) → pattern_read (lowered labels) ≡ pattern_read labels
pattern_read-lowered [] = refl
pattern_read-lowered (first ∷ others) =
    ap (λ (b : Bool). choose b (lowered (lowered others)) (lowered (lowered (first ∷ others)))) (is_asterisk-lower_case first)
    ∙ ap (λ (ls : List (List ℕ)). choose (is_asterisk first) ls (lowered (lowered (first ∷ others)))) (lowered-lowered others)
    ∙ ap (λ (ls : List (List ℕ)). choose (is_asterisk first) (lowered others) ls) (lowered-lowered (first ∷ others))

-- labels and the last of them
pub record EndsIn (labels : List (List ℕ)) : Type 0 where
  pub front : List (List ℕ)
  pub last : List ℕ
  pub whole : labels ≡ front ++ last ∷ []

pub last_of : (first : List ℕ) (others : List (List ℕ)) → EndsIn (first ∷ others)
last_of first [] = record { front = []; last = first; whole = refl }
last_of first (other ∷ others) =
    let e = last_of other others in
    record { front = first ∷ e.front; last = e.last; whole = ap (λ (ls : List (List ℕ)). first ∷ ls) e.whole }

get_last : (front : List (List ℕ)) (last : List ℕ) → slice_get (front ++ last ∷ []) (length front) ≡ Some last
get_last [] last = refl
get_last (l ∷ ls) last = get_last ls last

pub last_names : (front : List (List ℕ)) (last : List ℕ) → labels_trigger (front ++ last ∷ []) ≡ by_marker (marker_of last) front (front ++ last ∷ [])
unfolding labels_trigger
last_names front last =
    let labels : List (List ℕ) = front ++ last ∷ [] in
    let len : length labels - 1 ≡ length front = omega (arith, length-append front (last ∷ [])) in
    ap (λ (n : ℕ). by_last (slice_get labels n) labels) len
    ∙ ap (λ (o : Option (List ℕ)). by_last o labels) (get_last front last)
    ∙ ap (λ (n : ℕ). by_marker (marker_of last) (take n labels) labels) len
    ∙ ap (λ (ls : List (List ℕ)). by_marker (marker_of last) ls labels) (take_at front (last ∷ []) (length front) refl)
