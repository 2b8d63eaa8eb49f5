-- Parts that stand one after another come to the whole.
use Rattle.std.proofs.Common.{◌≡◌, ℕ, zero, suc, min, ◌+◌, ◌*◌, ◌/◌, ◌%◌, ◌<◌, ◌≤◌, List, [], length, take, drop, Result, Ok, Err, refl, sym, ap, ◌∙◌, subst, arith, get_or}
use Rattle.std.specs.Prelude.{All, IfOk, IsOk, OnOk, map}
use Rattle.std.specs.declared.alloc.AllocError.{AllocError}
use Rattle.std.proofs.lemmas.List.{map-append, take_all, take_more}
use Rattle.std.proofs.lemmas.List.Elements.{All-push}
use Rattle.std.proofs.lemmas.List.Sums.{fold_more}
use Rattle.std.proofs.Math.Seq.{take-add}
use Rattle.std.proofs.Math.Nat.{zero-mul}
use Rattle.std.proofs.Math.Nat.{add-mul, div-add-mod', mod-lt, one-mul}
use Rattle.reply_build.specs.declared.turn.Turn.{Turn}
use Rattle.load_gen.specs.declared.tally.Tally.{Tally}
use Rattle.load_gen.specs.Tallied.{joined, joined_parts, tally_in, tally_of}
use Rattle.load_gen.proofs.Tallies.{two_parts}

tally_is : (part : Result Tally AllocError) (whole : Tally) → IsOk part → IfOk part (λ t. t ≡ whole) → tally_in part ≡ whole
tally_is (Ok tally) whole ok h = h
tally_is (Err error) whole ok h = absurd cc

-- so many parts of this size are enough
enough_by : (q r size count len : ℕ) → q * size + r ≡ len → r < size → count ≡ q + min 1 r → len ≤ count * size
enough_by q zero size count len a b e =
    let same : count ≡ q = omega arith in
    let w = ap (λ n. n * size) same in omega arith
enough_by q (suc r) size count len a b e =
    let same : count ≡ q + 1 = omega arith in
    let w = ap (λ n. n * size) same ∙ add-mul q 1 size in
    let o = one-mul size in omega arith

enough : (size count len : ℕ) → 0 < size → count ≡ len / size + min 1 (len % size) → len ≤ count * size
enough size count len p e = enough_by (len / size) (len % size) size count len (div-add-mod' len size) (mod-lt len p) e

module _ {Q : Type 0} (f : Q → Turn) (size : ℕ) (xs : List Q) (parts : List (Result Tally AllocError)) where
  -- each part is what one of the chunks comes to
  abbrev pub ArePartsOf : Type 0
  ArePartsOf = (n : ℕ) (d : Result Tally AllocError) → n < length parts → IfOk (get_or parts n d) (λ t. t ≡ tally_of (map f (take size (drop (n * size) xs))))

  so_far : ArePartsOf → All IsOk parts → (n : ℕ) → n ≤ length parts → joined_parts (take n parts) ≡ tally_of (map f (take (n * size) xs))
  so_far each ok zero le = ap (λ k. tally_of (map f (take k xs))) (sym (zero-mul size))
  so_far each ok (suc n) le =
      let none : Result Tally AllocError = Ok (tally_of []) in
      let lt : n < length parts = omega arith in
      let step : suc n ≡ n + 1 = omega arith in
      let more : suc n * size ≡ n * size + size = omega arith in
      ap (λ k. joined_parts (take k parts)) step
      ∙ (fold_more (λ all part. joined all (tally_in part)) (tally_of []) parts n none lt
      ∙ ((λ i. joined (so_far each ok n (omega arith) i) (tally_is (get_or parts n none) _ (ok n none lt) (each n none lt) i))
      ∙ (sym (two_parts (map f (take (n * size) xs)) (map f (take size (drop (n * size) xs))))
      ∙ (ap tally_of (sym (map-append f (take (n * size) xs) (take size (drop (n * size) xs))))
      ∙ ap (λ ys. tally_of (map f ys)) (sym (take-add (n * size) size xs) ∙ ap (λ k. take k xs) (sym more))))))

  pub all_parts : ArePartsOf → All IsOk parts → 0 < size → length parts ≡ length xs / size + min 1 (length xs % size) → joined_parts parts ≡ tally_of (map f xs)
  all_parts each ok p e =
      ap joined_parts (sym (take_all (length parts) parts (omega arith)))
      ∙ (so_far each ok (length parts) (omega arith)
      ∙ ap (λ ys. tally_of (map f ys)) (take_all (length parts * size) xs (enough size (length parts) (length xs) p e)))

-- one part more is done
pub one_done : (parts : List (Result Tally AllocError)) (i : ℕ) (d : Result Tally AllocError) (tally : Tally) → i < length parts → get_or parts i d ≡ Ok tally
    → All IsOk (take i parts) → All IsOk (take (i + 1) parts)
one_done parts i d tally lt is h =
    let P : Result Tally AllocError → Type 0 = IsOk in
    rw (take_more parts i d lt) (All-push P (take i parts) (get_or parts i d) h (subst P (sym is) refl))

pub one_joined : (parts : List (Result Tally AllocError)) (i : ℕ) (d : Result Tally AllocError) (all next tally : Tally) → i < length parts → get_or parts i d ≡ Ok tally
    → all ≡ joined_parts (take i parts) → next ≡ joined all tally → next ≡ joined_parts (take (i + 1) parts)
one_joined parts i d all next tally lt is h e =
    e
    ∙ ((λ k. joined (h k) (tally_in (sym is k)))
    ∙ sym (fold_more (λ sum part. joined sum (tally_in part)) (tally_of []) parts i d lt))

-- where all parts are done, they come to the whole
pub whole_if : (result : Result Tally AllocError) (parts : List (Result Tally AllocError)) (whole : Tally) → IfOk result (λ tally. tally ≡ joined_parts parts)
    → OnOk result (All IsOk parts) → (All IsOk parts → joined_parts parts ≡ whole) → IfOk result (λ tally. tally ≡ whole)
whole_if (Ok tally) parts whole is done all = is ∙ all done
whole_if (Err error) parts whole is done all = tt
