-- The first labels of a name, and the last of them.
use Rattle.std.proofs.Common.{◌≡◌, ℕ, zero, suc, ◌+◌, ◌-◌, ◌<◌, ◌≤◌, List, [], ◌∷◌, length, take, drop, get_or, Bool, true, false, cond, Option, Some, Err, refl, sym, ap, ◌∙◌, arith}
use mir.Val.{bool_byte}
use Rattle.std.specs.Prelude.{slice_get}
use Rattle.std.proofs.lemmas.List.{get_or-drop, get_or-take, length-take, take-take}
use Rattle.std.proofs.lemmas.Option.{slice_get-get_or}
use Rattle.dns_name.specs.Labels.{lowered}
use Rattle.ip_prefix.specs.declared.Addr.{Addr}
use Rattle.ip_prefix.specs.Prefix.{prefix_of}
use Rattle.trigger_codec.specs.Address.{length_read, address_read, as_inert, prefix_made, prefix_read}
use Rattle.trigger_codec.specs.declared.inert.Inert.TheVariants.{Apex}
use Rattle.trigger_codec.specs.Decode.{pattern_read, labels_trigger, by_last, by_marker}
use Rattle.trigger_codec.specs.Trigger.{marker_of}
use Rattle.trigger_codec.specs.Seen.{first_is_asterisk}

-- one of the first labels, and those after it
pub take_next : {X : Type 0} (xs ys : List X) (x : X) (count i : ℕ) → xs ≡ x ∷ ys → i < count → take (count - i) xs ≡ x ∷ take (count - (i + 1)) ys
take_next xs ys x count i e lt =
    let more : count - i ≡ suc (count - (i + 1)) = omega arith in
    ap (λ (n : ℕ). take n xs) more ∙ ap (take (suc (count - (i + 1)))) e

-- the last of the first labels decides
pub last_decides : (owner : List (List ℕ)) (count : ℕ) (last : List ℕ) (rest : List (List ℕ)) → 1 ≤ count → count ≤ length owner → drop (count - 1) owner ≡ last ∷ rest
    → labels_trigger (take count owner) ≡ by_marker (marker_of last) (take (count - 1) owner) (take count owner)
unfolding labels_trigger
last_decides owner count last rest some within f =
    let len : length (take count owner) ≡ count = omega (arith, length-take count owner) in
    let at : get_or owner (count - 1) [] ≡ last = sym (ap (λ (n : ℕ). get_or owner n []) (let z : count - 1 + 0 ≡ count - 1 = omega arith in z)) ∙ sym (get_or-drop (count - 1) owner 0 []) ∙ ap (λ (ls : List (List ℕ)). get_or ls 0 []) f in
    let end : slice_get (take count owner) (count - 1) ≡ Some last =
    slice_get-get_or (take count owner) (count - 1) [] (omega arith) ∙ ap (λ (l : List ℕ). Some l) (get_or-take count owner (count - 1) [] (omega arith) ∙ at) in
    let front : take (count - 1) (take count owner) ≡ take (count - 1) owner = take-take (count - 1) count owner (omega arith) in
    let labels : List (List ℕ) = take count owner in
    ap (λ (o : Option (List ℕ)). by_last o labels) (ap (λ (n : ℕ). slice_get labels (n - 1)) len ∙ end) ∙ ap (λ (ls : List (List ℕ)). by_marker (marker_of last) ls labels) (ap (λ (n : ℕ). take (n - 1) labels) len ∙ front)

-- the pattern of the first labels
pub pattern_is : (owner : List (List ℕ)) (count : ℕ) (wild : Bool) (from : ℕ) (base : List (List ℕ)) → 1 ≤ count → count ≤ length owner → wild ≡ first_is_asterisk owner → from ≡ cond wild 1 0 → base ≡ take (count - from) (drop from owner)
    → pattern_read (take count owner) ≡ record { base = lowered base; wild = wild }
pattern_is [] count wild from base some within w f b = absurd (omega arith)
pattern_is (first ∷ others) zero wild from base some within w f b = absurd (omega arith)
pattern_is (first ∷ others) (suc n) true from base some within w f b =
    let left : suc n - 1 ≡ n = omega arith in
    let e : base ≡ take n others = b ∙ ap (λ (k : ℕ). take (suc n - k) (drop k (first ∷ others))) f ∙ ap (λ (k : ℕ). take k others) left in
    rw (← w, e) refl
pattern_is (first ∷ others) (suc n) false from base some within w f b =
    let left : suc n - 0 ≡ suc n = omega arith in
    let e : base ≡ first ∷ take n others = b ∙ ap (λ (k : ℕ). take (suc n - k) (drop k (first ∷ others))) f ∙ ap (λ (k : ℕ). take k (first ∷ others)) left in
    rw (← w, e) refl

-- the prefix of the first labels, by the first of them and those behind it
pub prefix_is : (owner : List (List ℕ)) (count : ℕ) (first : List ℕ) (others : List (List ℕ)) (len : ℕ) (addr : Addr) → owner ≡ first ∷ others → 1 ≤ count → Some len ≡ length_read first → Some addr ≡ address_read (take (count - 1) (drop 1 owner))
    → prefix_read (take count owner) ≡ as_inert (prefix_of addr len)
unfolding prefix_read
prefix_is owner count first others len addr e some l a =
    let cut : take count owner ≡ first ∷ take (count - 1) (drop 1 owner) = ap (λ (n : ℕ). take n owner) (let z : count ≡ suc (count - 1) = omega arith in z) ∙ ap (take (suc (count - 1))) e ∙ ap (λ (ls : List (List ℕ)). first ∷ take (count - 1) (drop 1 ls)) (sym e) in
    ap prefix_read cut ∙ ap (λ (o : Option ℕ). prefix_made o (address_read (take (count - 1) (drop 1 owner)))) (sym l) ∙ ap (prefix_made (Some len)) (sym a)

pub no_labels : labels_trigger [] ≡ Err Apex
unfolding labels_trigger
no_labels = refl

-- a `bool` as a number
pub bool_byte-cond : (b : Bool) → bool_byte b ≡ cond b 1 0
bool_byte-cond true = refl
bool_byte-cond false = refl

pub bool_byte-le : (b : Bool) → bool_byte b ≤ 1
bool_byte-le true = omega arith
bool_byte-le false = omega arith
