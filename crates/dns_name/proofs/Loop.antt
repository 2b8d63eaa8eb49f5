-- Reading labels one after another, as a loop does.
use Rattle.std.proofs.Common.{◌≡◌, ℕ, suc, ◌+◌, ◌-◌, ◌*◌, ◌≤◌, ◌<◌, Option, Some, None, unwrap_or, List, [], ◌∷◌, ◌++◌, length, drop, Ok, Err, refl, sym, ap, ◌∙◌, append_assoc, arith, length-append}
use Rattle.std.specs.List.{flat_map, AllByRecursion}
use Rattle.std.proofs.lemmas.List.{append-nil}
use Rattle.std.proofs.lemmas.List.Concat.{flat_map-append}
use Rattle.dns_name.specs.declared.fault.NameFault.{NameFault}
use Rattle.dns_name.specs.Labels.{IsLabel, IsName, label_octets}
use Rattle.dns_name.specs.Reading as reading
use Rattle.dns_name.specs.Reading.{Piece, piece_at, NameOutcome, with_labels, with_after, follow, name_from, name_at}

-- what is read: labels, what follows, and the place after the first pointer
abbrev pub join_outcome : List (List ℕ) → Option ℕ → NameOutcome → NameOutcome
join_outcome front after (Ok (labels, end)) = Ok (front ++ labels, unwrap_or after end)
join_outcome front after (Err fault) = Err fault

-- what the labels so far say of the name
pub record HasRead (message : List ℕ) (at run used place : ℕ) (labels : List (List ℕ)) (after : Option ℕ) : Type 0 where
  pub left : ℕ
  pub enough : 256 * run + 256 ≤ left + used
  pub so_far : join_outcome labels after (name_from left message run used place) ≡ name_at message at
  pub each : AllByRecursion IsLabel labels
  pub used_is : length (flat_map label_octets labels) ≡ used
  pub room : used ≤ 254

joined-nil : (o : NameOutcome) → join_outcome [] None o ≡ o
joined-nil (Ok x) = refl
joined-nil (Err fault) = refl

joined-push : (front : List (List ℕ)) (after : Option ℕ) (first : List ℕ) (o : NameOutcome) → join_outcome front after (with_labels (first ∷ []) o) ≡ join_outcome (front ++ first ∷ []) after o
joined-push front after first (Ok x) = ap (λ (ls : List (List ℕ)). Ok (ls, unwrap_or after x.1)) (simp append_assoc)
joined-push front after first (Err fault) = refl

joined-after : (front : List (List ℕ)) (after : Option ℕ) (end : ℕ) (o : NameOutcome) → join_outcome front after (with_after end o) ≡ join_outcome front (Some (unwrap_or after end)) o
joined-after front after end (Ok x) = refl
joined-after front after end (Err fault) = refl

AllByRecursion-push : (labels : List (List ℕ)) (first : List ℕ) → AllByRecursion IsLabel labels → IsLabel first → AllByRecursion IsLabel (labels ++ first ∷ [])
AllByRecursion-push [] first h l = (l, tt)
AllByRecursion-push (x ∷ xs) first h l = (h.0, AllByRecursion-push xs first h.1 l)

pub HasRead-start : (message : List ℕ) (at : ℕ) → HasRead message at at 0 at [] None
unfolding name_at
HasRead-start message at = record { left = 256 * at + 256; enough = omega arith; so_far = joined-nil (name_from (256 * at + 256) message at 0 at); each = tt; used_is = refl; room = omega arith }

-- one piece more
pub one_piece : (left : ℕ) (message : List ℕ) (run used place : ℕ) (piece : Piece) → 0 < left → piece_at run used (drop place message) ≡ Ok piece → name_from left message run used place ≡ follow (name_from (left - 1) message) run used place piece
unfolding name_from
one_piece left message run used place piece lt e =
    let k : left ≡ suc (left - 1) = omega arith in
    ap (λ (n : ℕ). name_from n message run used place) k ∙ rw e refl

pub no_piece : (left : ℕ) (message : List ℕ) (run used place : ℕ) (fault : NameFault) → 0 < left → piece_at run used (drop place message) ≡ Err fault → name_from left message run used place ≡ Err fault
unfolding name_from
no_piece left message run used place fault lt e =
    let k : left ≡ suc (left - 1) = omega arith in
    ap (λ (n : ℕ). name_from n message run used place) k ∙ rw e refl

pub HasRead-label : (message : List ℕ) (at run used place : ℕ) (labels : List (List ℕ)) (after : Option ℕ) (first : List ℕ) (used' place' : ℕ) → used' ≡ used + length first + 1 → place' ≡ place + length first + 1
    → HasRead message at run used place labels after → piece_at run used (drop place message) ≡ Ok (reading.label first) → IsLabel first → used + length first + 2 ≤ 255 → HasRead message at run used' place' (labels ++ first ∷ []) after
HasRead-label message at run used place labels after first used' place' u p h piece is_label room = record {
  left = h.left - 1;
  enough = omega (arith, h.enough, h.room);
  so_far = sym (joined-push labels after first (name_from (h.left - 1) message run used' place')) ∙ ap (λ (o : NameOutcome). join_outcome labels after (with_labels (first ∷ []) o)) (rw (u, p) refl) ∙ ap (join_outcome labels after) (sym (one_piece h.left message run used place (reading.label first) (omega (arith, h.enough, h.room)) piece)) ∙ h.so_far;
  each = AllByRecursion-push labels first h.each is_label;
  used_is = ap length (flat_map-append label_octets labels (first ∷ [])) ∙ omega (arith, length-append (flat_map label_octets labels) (label_octets first ++ []), length-append (label_octets first) [], h.used_is);
  room = omega (arith, room);
}

pub HasRead-pointer : (message : List ℕ) (at run used place : ℕ) (labels : List (List ℕ)) (after : Option ℕ) (target : ℕ) → HasRead message at run used place labels after → target < run
    → piece_at run used (drop place message) ≡ Ok (reading.pointer target) → HasRead message at target used target labels (Some (unwrap_or after (place + 2)))
HasRead-pointer message at run used place labels after target h earlier piece = record {
  left = h.left - 1;
  enough = omega (arith, h.enough, h.room);
  so_far = sym (joined-after labels after (place + 2) (name_from (h.left - 1) message target used target)) ∙ ap (join_outcome labels after) (sym (one_piece h.left message run used place (reading.pointer target) (omega (arith, h.enough, h.room)) piece)) ∙ h.so_far;
  each = h.each;
  used_is = h.used_is;
  room = h.room;
}

pub HasRead-ends : (message : List ℕ) (at run used place : ℕ) (labels : List (List ℕ)) (after : Option ℕ) → HasRead message at run used place labels after → piece_at run used (drop place message) ≡ Ok reading.end
    → name_at message at ≡ Ok (labels, unwrap_or after (place + 1))
HasRead-ends message at run used place labels after h piece =
    sym h.so_far ∙ ap (join_outcome labels after) (one_piece h.left message run used place reading.end (omega (arith, h.enough, h.room)) piece) ∙ ap (λ (ls : List (List ℕ)). Ok (ls, unwrap_or after (place + 1))) (append-nil labels)

pub HasRead-fails : (message : List ℕ) (at run used place : ℕ) (labels : List (List ℕ)) (after : Option ℕ) (fault : NameFault) → HasRead message at run used place labels after → piece_at run used (drop place message) ≡ Err fault → name_at message at ≡ Err fault
HasRead-fails message at run used place labels after fault h piece = sym h.so_far ∙ ap (join_outcome labels after) (no_piece h.left message run used place fault (omega (arith, h.enough, h.room)) piece)

pub HasRead-name : (message : List ℕ) (at run used place : ℕ) (labels : List (List ℕ)) (after : Option ℕ) → HasRead message at run used place labels after → IsName labels
HasRead-name message at run used place labels after h = record { labels = h.each; short = omega (arith, length-append (flat_map label_octets labels) (0 ∷ []), h.used_is, h.room) }

-- the same of the bytes that were written so far
pub record HasWalked (message : List ℕ) (at run used place : ℕ) (wire : List ℕ) (after : Option ℕ) : Type 0 where
  pub labels : List (List ℕ)
  pub wire_is : wire ≡ flat_map label_octets labels
  pub read : HasRead message at run used place labels after

pub HasWalked-label : (message : List ℕ) (at run used place : ℕ) (wire : List ℕ) (after : Option ℕ) (first : List ℕ) (used' place' : ℕ) (wire' : List ℕ) → wire' ≡ (wire ++ length first ∷ []) ++ first → used' ≡ used + length first + 1 → place' ≡ place + length first + 1
    → HasWalked message at run used place wire after → piece_at run used (drop place message) ≡ Ok (reading.label first) → IsLabel first → used + length first + 2 ≤ 255 → HasWalked message at run used' place' wire' after
HasWalked-label message at run used place wire after first used' place' wire' w u p h piece is_label room = record {
  labels = h.labels ++ first ∷ [];
  wire_is = w ∙ append_assoc wire (length first ∷ []) first ∙ ap (λ (bytes : List ℕ). bytes ++ label_octets first) h.wire_is ∙ ap (λ (bytes : List ℕ). flat_map label_octets h.labels ++ bytes) (sym (append-nil (label_octets first))) ∙ sym (flat_map-append label_octets h.labels (first ∷ []));
  read = HasRead-label message at run used place h.labels after first used' place' u p h.read piece is_label room;
}
