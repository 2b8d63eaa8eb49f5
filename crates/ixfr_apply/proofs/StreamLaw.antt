-- What a stream is read as is told by its frames, both ways.
use Rattle.std.proofs.Common.{◌≡◌, ℕ, zero, suc, ◌+◌, ◌*◌, ◌/◌, ◌%◌, ◌<◌, ◌≤◌, Bool, true, false, cond, List, [], ◌∷◌, ◌++◌, length, take, drop, Option, Some, None, Err, refl, sym, ap, ap₂, ◌∙◌, append_assoc, append-nil, length-append, subst, inl, inr, arith, take_at, drop_at, length-drop}
use Rattle.std.specs.Prelude.{nat_lt}
use Rattle.std.specs.List.{All}
use Rattle.std.proofs.lemmas.Bool.{cases_lt, ltb-true, ltb-false}
use Rattle.std.proofs.lemmas.List.{take-append-le, take_all, length-take-le, take-append-drop}
use Rattle.std.proofs.lemmas.List.Elements.{All-nil, All-push, All-head, All-tail, All-same, All-take, All-drop}
use Rattle.std.proofs.lemmas.Grind.{flat_map-append}
use Rattle.edge_io.specs.declared.frame.TheConstants.{FRAME_MAX}
use Rattle.edge_io.specs.Frame.{cut, whole, frame_octets}
use Rattle.axfr_apply.specs.declared.transfer_request.TransferRequest.{TransferRequest}
use Rattle.axfr_apply.specs.declared.fault.TransferFault.TheVariants.{Cut, EndedEarly}
use Rattle.axfr_apply.specs.Item.{items, records}
use Rattle.axfr_apply.specs.Reading.{TransferOutcome, first_end, outcome_of}
use Rattle.ixfr_apply.specs.Laws.{frames_of, FitFrames, NoneEnds, StreamReads, ends, is_cut, ends_early}
use Rattle.ixfr_apply.specs.Stream.{Read, read_end, read_of_frame, read_from, reading}
use Rattle.ixfr_apply.proofs.Streams.{Comes, Framed, none_comes, frame_comes, framed_comes, framed_ends, cut_ends, none_ends}

-- no message ends no transfer
none_of_none : (asked : TransferRequest) → outcome_of asked [] ≡ None
unfolding outcome_of items records first_end
none_of_none asked = refl

none_ends-nil : (asked : TransferRequest) → NoneEnds asked []
none_ends-nil asked n le =
    let low : length {A = List ℕ} [] ≤ n = omega arith in
    ap (outcome_of asked) (take_all n [] low) ∙ none_of_none asked

-- one message more that doesn't end the transfer
none_ends-more : (asked : TransferRequest) (before : List (List ℕ)) (message : List ℕ) → NoneEnds asked before → outcome_of asked (before ++ message ∷ []) ≡ None → NoneEnds asked (before ++ message ∷ [])
none_ends-more asked before message still e n le =
    let long : length (before ++ message ∷ []) ≡ length before + 1 = length-append before (message ∷ []) in
    elim (cases_lt (length before) n) [
      | inl more ↦ let all : length (before ++ message ∷ []) ≤ n = omega arith in ap (outcome_of asked) (take_all n (before ++ message ∷ []) all) ∙ e
      | inr few ↦ ap (outcome_of asked) (take-append-le n before (message ∷ []) few) ∙ still n few
    ]

frames_of-more : (before : List (List ℕ)) (message rest : List ℕ) → frames_of (before ++ message ∷ []) ++ rest ≡ frames_of before ++ (frame_octets message ++ rest)
frames_of-more before message rest =
    ap (λ (l : List ℕ). l ++ rest) (flat_map-append frame_octets before (message ∷ []) ∙ ap (λ (l : List ℕ). frames_of before ++ l) (append-nil (frame_octets message)))
    ∙ append_assoc (frames_of before) (frame_octets message) rest

-- a message behind others that don't end the transfer, where the reading that goes on behind it is known
reads_by_end : (asked : TransferRequest) (go : List (List ℕ) → List ℕ → Read) (before : List (List ℕ)) (message rest : List ℕ) (end : Option TransferOutcome)
    → (FitFrames (before ++ message ∷ []) → NoneEnds asked (before ++ message ∷ []) → StreamReads asked (frames_of (before ++ message ∷ []) ++ rest) (go (before ++ message ∷ []) rest))
    → FitFrames (before ++ message ∷ []) → NoneEnds asked before → outcome_of asked (before ++ message ∷ []) ≡ end
    → StreamReads asked (frames_of (before ++ message ∷ []) ++ rest) (read_end go (before ++ message ∷ []) rest end)
reads_by_end asked go before message rest None on fit still e = on fit (none_ends-more asked before message still e)
reads_by_end asked go before message rest (Some outcome) on fit still e = ends before message rest outcome fit still e

size_is : (high low : ℕ) (rest : List ℕ) → 256 * high + low ≤ length rest → length (take (256 * high + low) rest) ≡ 256 * high + low
size_is high low rest le = length-take-le (256 * high + low) rest le

-- a size and enough bytes are a frame and other bytes
whole_is : (high low : ℕ) (rest : List ℕ) → high < 256 → low < 256 → 256 * high + low ≤ length rest
    → high ∷ low ∷ rest ≡ frame_octets (take (256 * high + low) rest) ++ drop (256 * high + low) rest
whole_is high low rest h l le =
    let size = size_is high low rest le in
    let up : high ≡ length (take (256 * high + low) rest) / 256 = omega (arith, size) in
    let down : low ≡ length (take (256 * high + low) rest) % 256 = omega (arith, size) in
    let all : rest ≡ take (256 * high + low) rest ++ drop (256 * high + low) rest = sym (take-append-drop (256 * high + low) rest) in
    cc

-- a size and other bytes, behind messages that don't end the transfer
reads_by_size : (asked : TransferRequest) (go : List (List ℕ) → List ℕ → Read) (before : List (List ℕ)) (high low : ℕ) (rest : List ℕ) (fewer : Bool)
    → ((messages : List (List ℕ)) → FitFrames messages → NoneEnds asked messages → StreamReads asked (frames_of messages ++ drop (256 * high + low) rest) (go messages (drop (256 * high + low) rest)))
    → high < 256 → low < 256 → FitFrames before → NoneEnds asked before → nat_lt (length rest) (256 * high + low) ≡ fewer
    → StreamReads asked (frames_of before ++ (high ∷ low ∷ rest)) (read_of_frame go asked before (cond fewer cut (whole (take (256 * high + low) rest) (drop (256 * high + low) rest))))
reads_by_size asked go before high low rest true on h l fit still e = is_cut before (high ∷ low ∷ rest) fit still (ltb-true (length rest) (256 * high + low) e)
reads_by_size asked go before high low rest false on h l fit still e =
    let le : 256 * high + low ≤ length rest = ltb-false (length rest) (256 * high + low) e in
    let message : List ℕ = take (256 * high + low) rest in
    let left : List ℕ = drop (256 * high + low) rest in
    let size : length (take (256 * high + low) rest) ≡ 256 * high + low = size_is high low rest le in
    let short : length (take (256 * high + low) rest) ≤ FRAME_MAX = omega arith in
    let fits : FitFrames (before ++ message ∷ []) = All-push (λ (m : List ℕ). length m ≤ FRAME_MAX) before message fit short in
    subst (λ (l : List ℕ). StreamReads asked l (read_of_frame go asked before (whole message left)))
    (frames_of-more before message left ∙ ap (λ (l : List ℕ). frames_of before ++ l) (sym (whole_is high low rest h l le)))
    (reads_by_end asked go before message left (outcome_of asked (before ++ message ∷ [])) (on (before ++ message ∷ [])) fits still refl)

reads_from : (frames : ℕ) (asked : TransferRequest) (before : List (List ℕ)) (bytes : List ℕ) → length bytes < frames → All (λ byte. byte < 256) bytes → FitFrames before → NoneEnds asked before
    → StreamReads asked (frames_of before ++ bytes) (read_from frames asked before bytes)
unfolding read_from
reads_from zero asked before bytes enough octets fit still = absurd (omega (arith, enough))
reads_from (suc frames) asked before [] enough octets fit still = subst (λ (l : List ℕ). StreamReads asked l (Err EndedEarly, [])) (sym (append-nil (frames_of before))) (ends_early before fit still)
reads_from (suc frames) asked before (high ∷ []) enough octets fit still = is_cut before (high ∷ []) fit still tt
reads_from (suc frames) asked before (high ∷ low ∷ rest) enough octets fit still =
    let is_octet : ℕ → Type 0 = λ (byte : ℕ). byte < 256 in
    let behind : All is_octet (low ∷ rest) = All-tail is_octet high (low ∷ rest) octets in
    let count : ℕ = 256 * high + low in
    let fewer : length (drop (256 * high + low) rest) < frames = omega (arith, enough, length-drop (256 * high + low) rest) in
    reads_by_size asked (read_from frames asked) before high low rest (nat_lt (length rest) (256 * high + low))
    (λ messages fits none. reads_from frames asked messages (drop (256 * high + low) rest) fewer (All-drop is_octet (256 * high + low) rest (All-tail is_octet low rest behind)) fits none)
    (All-head is_octet high (low ∷ rest) octets) (All-head is_octet low rest behind) fit still refl

pub stream_reads : (asked : TransferRequest) (bytes : List ℕ) → All (λ byte. byte < 256) bytes → StreamReads asked bytes (reading asked bytes)
unfolding reading
stream_reads asked bytes octets = reads_from (length bytes + 1) asked [] bytes (omega arith) octets (All-nil (λ (m : List ℕ). length m ≤ FRAME_MAX)) (none_ends-nil asked)

-- the frames of messages that don't end the transfer are read
comes_all : (asked : TransferRequest) (bytes : List ℕ) (before messages : List (List ℕ)) (rest : List ℕ) → FitFrames messages → NoneEnds asked (before ++ messages) → Comes asked before bytes (Some (frames_of messages ++ rest))
    → Comes asked (before ++ messages) bytes (Some rest)
comes_all asked bytes before [] rest fit still comes = subst (λ (l : List (List ℕ)). Comes asked l bytes (Some rest)) (sym (append-nil before)) comes
comes_all asked bytes before (message ∷ messages) rest fit still comes =
    let fits : List ℕ → Type 0 = λ (m : List ℕ). length m ≤ FRAME_MAX in
    let joined : (before ++ message ∷ []) ++ messages ≡ before ++ (message ∷ messages) = append_assoc before (message ∷ []) messages in
    let there : NoneEnds asked ((before ++ message ∷ []) ++ messages) = subst (NoneEnds asked) (sym joined) still in
    let within : length (before ++ message ∷ []) ≤ length ((before ++ message ∷ []) ++ messages) = omega (arith, length-append (before ++ message ∷ []) messages) in
    let none : outcome_of asked (before ++ message ∷ []) ≡ None =
    ap (outcome_of asked) (sym (take_at (before ++ message ∷ []) messages (length (before ++ message ∷ [])) refl)) ∙ there (length (before ++ message ∷ [])) within in
    let framed : Framed asked (before ++ message ∷ []) bytes (Some (frames_of messages ++ rest)) =
    frame_comes asked before message bytes (Some (frames_of (message ∷ messages) ++ rest)) (Some (frames_of messages ++ rest)) comes
    (record { fits = All-head fits message messages fit; taken = ap Some (append_assoc (frame_octets message) (frames_of messages) rest) }) in
    subst (λ (l : List (List ℕ)). Comes asked l bytes (Some rest)) joined
    (comes_all asked bytes (before ++ message ∷ []) messages rest (All-tail fits message messages fit) there (framed_comes asked (before ++ message ∷ []) bytes (Some (frames_of messages ++ rest)) framed none))

read_is : (read : Read) (outcome : TransferOutcome) (left : List ℕ) → (read.0 ≡ outcome) × (Some left ≡ Some read.1) → read ≡ (outcome, left)
read_is read outcome left both =
    let rest : read.1 ≡ left = cc in
    ap₂ (λ (o : TransferOutcome) (l : List ℕ). let r : Read = (o, l) in r) both.0 rest

pub reads_only : (asked : TransferRequest) (bytes : List ℕ) (read : Read) → StreamReads asked bytes read → reading asked bytes ≡ read
reads_only asked _ _ (ends before message rest outcome fit still e) =
    let fits : List ℕ → Type 0 = λ (m : List ℕ). length m ≤ FRAME_MAX in
    let bytes : List ℕ = frames_of (before ++ message ∷ []) ++ rest in
    let first : FitFrames before = All-same fits before (take (length before) (before ++ message ∷ [])) (sym (take_at before (message ∷ []) (length before) refl)) (All-take fits (length before) (before ++ message ∷ []) fit) in
    let last : FitFrames (message ∷ []) = All-same fits (message ∷ []) (drop (length before) (before ++ message ∷ [])) (sym (drop_at before (message ∷ []) (length before) refl)) (All-drop fits (length before) (before ++ message ∷ []) fit) in
    let begun : Comes asked [] bytes (Some (frames_of before ++ (frame_octets message ++ rest))) = subst (λ (l : List ℕ). Comes asked [] bytes (Some l)) (frames_of-more before message rest) (none_comes asked bytes) in
    let framed : Framed asked (before ++ message ∷ []) bytes (Some rest) =
    frame_comes asked before message bytes (Some (frame_octets message ++ rest)) (Some rest) (comes_all asked bytes [] before (frame_octets message ++ rest) first still begun)
    (record { fits = All-head fits message [] last; taken = refl }) in
    read_is (reading asked bytes) outcome rest (framed_ends asked (before ++ message ∷ []) bytes (Some rest) outcome framed e)
reads_only asked _ _ (is_cut before part fit still of_frame) =
    let bytes : List ℕ = frames_of before ++ part in
    read_is (reading asked bytes) (Err Cut) [] (cut_ends asked before bytes (Some part) (Some []) (comes_all asked bytes [] before part fit still (none_comes asked bytes))
    (record { octets = part; is_cut = of_frame; taken = ap Some (sym (append-nil part)); at_end = refl }))
reads_only asked _ _ (ends_early before fit still) =
    let bytes : List ℕ = frames_of before in
    let begun : Comes asked [] bytes (Some (frames_of before ++ [])) = subst (λ (l : List ℕ). Comes asked [] bytes (Some l)) (sym (append-nil (frames_of before))) (none_comes asked bytes) in
    read_is (reading asked bytes) (Err EndedEarly) [] (none_ends asked before bytes (Some []) (Some []) (comes_all asked bytes [] before [] fit still begun) (record { at_end = refl; stays = refl }))
