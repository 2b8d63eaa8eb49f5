-- How far a stream was read.
use Rattle.std.proofs.Common.{◌≡◌, ℕ, zero, suc, ◌+◌, ◌*◌, ◌/◌, ◌%◌, ◌<◌, false, List, [], ◌∷◌, ◌++◌, length, Option, Some, None, Result, Ok, Err, refl, sym, ap, ◌∙◌, append_assoc, append-nil, length-append, subst, arith, take_at, drop_at}
use Rattle.std.specs.Prelude.{nat_lt, IfSome}
use Rattle.std.proofs.lemmas.Bool.{lt-ltb, le-ltb}
use Rattle.edge_io.specs.Edge.{prepended, IsAtEnd}
use Rattle.edge_io.specs.Frame.{Frame, none, cut, whole, frame_at, frame_octets, TakesSome, TakesFrame, TakesNone, TakesCut, IsCut}
use Rattle.axfr_apply.specs.declared.transfer_request.TransferRequest.{TransferRequest}
use Rattle.axfr_apply.specs.declared.fault.TransferError.{TransferError}
use Rattle.axfr_apply.specs.declared.fault.TransferError.TheVariants as errors
use Rattle.axfr_apply.specs.declared.fault.TransferFault.TheVariants.{ReadFault, Cut, EndedEarly}
use Rattle.ixfr_apply.specs.declared.progress.Progress.{Progress}
use Rattle.ixfr_apply.specs.declared.reader.Fed.{Fed}
use Rattle.ixfr_apply.specs.declared.reader.Fed.TheVariants as fed
use Rattle.axfr_apply.specs.declared.taken.Taken.TheVariants as taken
use Rattle.zone_rows.specs.declared.transfer.Transfer.{Transfer}
use Rattle.ixfr_apply.specs.Feeding.{Reader, Feeds, IsFinished, IsOfReader, Waits, WaitsBehind}
use Rattle.axfr_apply.specs.Reading.{TransferOutcome, outcome_of}
use Rattle.ixfr_apply.specs.Stream.{Read, read_end, read_of_frame, read_from, reading, BlamesSource, Reads, ReadsAs, TakesMessage}

-- a stream of which these messages were read, and the rest is left
pub record Comes (asked : TransferRequest) (messages : List (List ℕ)) (bytes : List ℕ) (now : Option (List ℕ)) : Type 0 where
  pub rest : List ℕ
  pub left : now ≡ Some rest
  pub frames : ℕ
  pub enough : length rest < frames
  pub goes : reading asked bytes ≡ read_from frames asked messages rest

pub record HasCome (asked : TransferRequest) (reader : Reader) (before now : Option (List ℕ)) : Type 0 where
  pub same : reader.asked ≡ asked
  pub messages : List (List ℕ)
  pub waits : Waits reader messages
  pub bytes : IfSome before (λ bytes. Comes asked messages bytes now)
  pub taken : TakesSome before now

takes_none : (before : Option (List ℕ)) → TakesSome before before
takes_none None = ([], refl)
takes_none (Some bytes) = ([], refl)

prepended-two : (xs ys : List ℕ) (after : Option (List ℕ)) → prepended xs (prepended ys after) ≡ prepended (xs ++ ys) after
prepended-two xs ys None = refl
prepended-two xs ys (Some rest) = ap Some (sym (append_assoc xs ys rest))

pub takes_more : (before now after : Option (List ℕ)) → TakesSome before now → TakesSome now after → TakesSome before after
takes_more before now after first other = (first.0 ++ other.0, first.1 ∙ ap (prepended first.0) other.1 ∙ prepended-two first.0 other.0 after)

-- no message was read
pub none_comes : (asked : TransferRequest) (bytes : List ℕ) → Comes asked [] bytes (Some bytes)
unfolding reading
none_comes asked bytes = record { rest = bytes; left = refl; frames = length bytes + 1; enough = omega arith; goes = refl }

first_comes : (asked : TransferRequest) (before : Option (List ℕ)) → IfSome before (λ bytes. Comes asked [] bytes before)
first_comes asked None = tt
first_comes asked (Some bytes) = none_comes asked bytes

-- nothing was read
pub first_come : (asked : TransferRequest) (reader : Reader) (before : Option (List ℕ)) → reader.asked ≡ asked → Waits reader [] → HasCome asked reader before before
first_come asked reader before same waits = record { same = same; messages = []; waits = waits; bytes = first_comes asked before; taken = takes_none before }

-- the next step of the reading, at what the rest begins with
read_step : (asked : TransferRequest) (messages : List (List ℕ)) (rest : List ℕ) (frames : ℕ) (frame : Frame) → length rest < frames → frame_at rest ≡ frame
    → (fewer : ℕ) × (frames ≡ suc fewer) × (read_from frames asked messages rest ≡ read_of_frame (read_from fewer asked) asked messages frame)
unfolding read_from
read_step asked messages rest zero frame enough e = absurd (omega (arith, enough))
read_step asked messages rest (suc fewer) frame enough e = (fewer, refl, ap (read_of_frame (read_from fewer asked) asked messages) e)

is_some_end : (after : Option (List ℕ)) (rest octets : List ℕ) → Some rest ≡ prepended octets after → (left : List ℕ) × (after ≡ Some left) × (rest ≡ octets ++ left)
is_some_end None rest octets e = absurd cc
is_some_end (Some left) rest octets e = (left, refl, cc)

at_end_nil : (after : Option (List ℕ)) (left : List ℕ) → after ≡ Some left → IsAtEnd after → left ≡ []
at_end_nil after left e end = rw e at end

-- the stream ended between frames
pub none_ends : (asked : TransferRequest) (messages : List (List ℕ)) (bytes : List ℕ) (now after : Option (List ℕ)) → Comes asked messages bytes now → TakesNone now after
    → ((reading asked bytes).0 ≡ Err EndedEarly) × (after ≡ Some (reading asked bytes).1)
none_ends asked messages bytes now after comes takes =
    let empty : comes.rest ≡ [] = at_end_nil now comes.rest comes.left takes.at_end in
    let step = read_step asked messages comes.rest comes.frames none comes.enough (ap frame_at empty) in
    let read : reading asked bytes ≡ (Err EndedEarly, []) = comes.goes ∙ step.2 in
    (ap (λ (x : Read). x.0) read, takes.stays ∙ comes.left ∙ ap Some (empty ∙ sym (ap (λ (x : Read). x.1) read)))

cut_at : (octets : List ℕ) → IsCut octets → frame_at octets ≡ cut
cut_at [] is = absurd is
cut_at (high ∷ []) is = refl
cut_at (high ∷ low ∷ message) is = rw (lt-ltb (length message) (256 * high + low) is) refl

-- the stream ended inside a frame
pub cut_ends : (asked : TransferRequest) (messages : List (List ℕ)) (bytes : List ℕ) (now after : Option (List ℕ)) → Comes asked messages bytes now → TakesCut now after
    → ((reading asked bytes).0 ≡ Err Cut) × (after ≡ Some (reading asked bytes).1)
cut_ends asked messages bytes now after comes takes =
    let parts = is_some_end after comes.rest takes.octets (sym comes.left ∙ takes.taken) in
    let empty : parts.0 ≡ [] = at_end_nil after parts.0 parts.1 takes.at_end in
    let same : comes.rest ≡ takes.octets = parts.2 ∙ ap (λ (l : List ℕ). takes.octets ++ l) empty ∙ append-nil takes.octets in
    let step = read_step asked messages comes.rest comes.frames cut comes.enough (ap frame_at same ∙ cut_at takes.octets takes.is_cut) in
    let read : reading asked bytes ≡ (Err Cut, []) = comes.goes ∙ step.2 in
    (ap (λ (x : Read). x.0) read, parts.1 ∙ ap Some (empty ∙ sym (ap (λ (x : Read). x.1) read)))

whole_at : (high low : ℕ) (message left : List ℕ) → length message ≡ 256 * high + low → frame_at (high ∷ low ∷ (message ++ left)) ≡ whole message left
whole_at high low message left e =
    let long : nat_lt (length (message ++ left)) (256 * high + low) ≡ false = le-ltb _ _ (omega (arith, e, length-append message left)) in
    rw (long, take_at message left (256 * high + low) e, drop_at message left (256 * high + low) e) refl

-- a message that was read, and how the reading goes on behind it
pub record Framed (asked : TransferRequest) (messages : List (List ℕ)) (bytes : List ℕ) (after : Option (List ℕ)) : Type 0 where
  pub rest : List ℕ
  pub left : after ≡ Some rest
  pub frames : ℕ
  pub enough : length rest < frames
  pub goes : reading asked bytes ≡ read_end (read_from frames asked) messages rest (outcome_of asked messages)

pub frame_comes : (asked : TransferRequest) (messages : List (List ℕ)) (message bytes : List ℕ) (now after : Option (List ℕ)) → Comes asked messages bytes now → TakesFrame message now after → Framed asked (messages ++ message ∷ []) bytes after
frame_comes asked messages message bytes now after comes takes =
    let parts = is_some_end after comes.rest (frame_octets message) (sym comes.left ∙ takes.taken) in
    let frame : frame_at comes.rest ≡ whole message parts.0 = ap frame_at parts.2 ∙ whole_at (length message / 256) (length message % 256) message parts.0 (omega arith) in
    let step = read_step asked messages comes.rest comes.frames (whole message parts.0) comes.enough frame in
    record {
      rest = parts.0;
      left = parts.1;
      frames = step.0;
      enough = omega (arith, comes.enough, step.1, ap length parts.2, length-append message parts.0);
      goes = comes.goes ∙ step.2;
    }

-- the message ends the transfer
pub framed_ends : (asked : TransferRequest) (messages : List (List ℕ)) (bytes : List ℕ) (after : Option (List ℕ)) (outcome : TransferOutcome) → Framed asked messages bytes after → outcome_of asked messages ≡ Some outcome
    → ((reading asked bytes).0 ≡ outcome) × (after ≡ Some (reading asked bytes).1)
framed_ends asked messages bytes after outcome framed e =
    let read : reading asked bytes ≡ (outcome, framed.rest) = framed.goes ∙ ap (read_end (read_from framed.frames asked) messages framed.rest) e in
    (ap (λ (x : Read). x.0) read, framed.left ∙ ap Some (sym (ap (λ (x : Read). x.1) read)))

-- the message doesn't
pub framed_comes : (asked : TransferRequest) (messages : List (List ℕ)) (bytes : List ℕ) (after : Option (List ℕ)) → Framed asked messages bytes after → outcome_of asked messages ≡ None → Comes asked messages bytes after
framed_comes asked messages bytes after framed e = record {
  rest = framed.rest;
  left = framed.left;
  frames = framed.frames;
  enough = framed.enough;
  goes = framed.goes ∙ ap (read_end (read_from framed.frames asked) messages framed.rest) e;
}

-- the same where the source may tell nothing
pub if_some : (before : Option (List ℕ)) (P Q : List ℕ → Type 0) → ((bytes : List ℕ) → P bytes → Q bytes) → IfSome before P → IfSome before Q
if_some None P Q more h = tt
if_some (Some bytes) P Q more h = more bytes h

-- what an error of reading a message says of the stream
pub message_error : (asked : TransferRequest) (reader : Reader) (before now after : Option (List ℕ)) (e : TransferError) → HasCome asked reader before now → TakesMessage (Err e) now after → Reads asked (Err e) before after
message_error asked reader before now after errors.OutOfMemory come takes = takes_more before now after come.taken takes
message_error asked reader before now after (errors.Fault ReadFault) come takes = takes_more before now after come.taken takes
message_error asked reader before now after (errors.Fault Cut) come takes = if_some before _ _ (λ bytes comes. cut_ends asked come.messages bytes now after comes takes) come.bytes
message_error asked reader before now after (errors.Fault EndedEarly) come takes = if_some before _ _ (λ bytes comes. none_ends asked come.messages bytes now after comes takes) come.bytes
message_error asked reader before now after (errors.Fault fault) come takes = absurd takes

-- what was taken of the stream where no message was read
pub error_taken : (now after : Option (List ℕ)) (e : TransferError) → TakesMessage (Err e) now after → TakesSome now after
error_taken now after errors.OutOfMemory takes = takes
error_taken now after (errors.Fault ReadFault) takes = takes
error_taken now after (errors.Fault Cut) takes = (takes.octets, takes.taken)
error_taken now after (errors.Fault EndedEarly) takes = subst (TakesSome now) (sym takes.stays) (takes_none now)
error_taken now after (errors.Fault fault) takes = absurd takes

-- a message that is another name for this one
pub retold : (message items : List ℕ) (now after : Option (List ℕ)) → message ≡ items → TakesFrame items now after → TakesFrame message now after
retold message items now after e takes = subst (λ (m : List ℕ). TakesFrame m now after) (sym e) takes

-- a message that was read of the stream
pub frame_taken : (message : List ℕ) (now after : Option (List ℕ)) → TakesFrame message now after → TakesSome now after
frame_taken message now after takes = (frame_octets message, takes.taken)

-- how a message that was fed ends the transfer
abbrev FedAll : TransferRequest → Reader → Reader → List ℕ → Result Fed TransferError → Type 0
FedAll asked old new message result = (messages : List (List ℕ)) → Waits old messages → Feeds result new (messages ++ message ∷ []) (outcome_of old.asked (messages ++ message ∷ []))

ends_so : (asked : TransferRequest) (old : Reader) (before now after : Option (List ℕ)) (message : List ℕ) (outcome : TransferOutcome) → (come : HasCome asked old before now) → TakesFrame message now after
    → outcome_of old.asked (come.messages ++ message ∷ []) ≡ Some outcome → ReadsAs asked outcome before after
ends_so asked old before now after message outcome come takes e =
    let ended : outcome_of asked (come.messages ++ message ∷ []) ≡ Some outcome = rw (← come.same) e in
    if_some before _ _ (λ bytes comes. framed_ends asked (come.messages ++ message ∷ []) bytes after outcome (frame_comes asked come.messages message bytes now after comes takes) ended) come.bytes

pub fed_error : (asked : TransferRequest) (old new : Reader) (before now after : Option (List ℕ)) (message : List ℕ) (e : TransferError) → HasCome asked old before now → TakesFrame message now after → FedAll asked old new message (Err e) → Reads asked (Err e) before after
fed_error asked old new before now after message errors.OutOfMemory come takes feeds = takes_more before now after come.taken (frame_taken message now after takes)
fed_error asked old new before now after message (errors.Fault ReadFault) come takes feeds = takes_more before now after come.taken (frame_taken message now after takes)
fed_error asked old new before now after message (errors.Fault fault) come takes feeds = ends_so asked old before now after message (Err fault) come takes (feeds come.messages come.waits).0

pub fed_current : (asked : TransferRequest) (old new : Reader) (before now after : Option (List ℕ)) (message : List ℕ) (theirs : ℕ) → HasCome asked old before now → TakesFrame message now after → FedAll asked old new message (Ok (fed.Current theirs))
    → ReadsAs asked (Ok (taken.Current theirs)) before after
fed_current asked old new before now after message theirs come takes feeds = ends_so asked old before now after message (Ok (taken.Current theirs)) come takes (feeds come.messages come.waits).0

pub fed_done : (asked : TransferRequest) (old new : Reader) (before now after : Option (List ℕ)) (message : List ℕ) (transfer : Transfer) → HasCome asked old before now → TakesFrame message now after → FedAll asked old new message (Ok (fed.Done transfer))
    → ReadsAs asked (Ok (taken.New transfer)) before after
fed_done asked old new before now after message transfer come takes feeds = ends_so asked old before now after message (Ok (taken.New transfer)) come takes (feeds come.messages come.waits).0

-- the transfer goes on behind the message
pub comes_on : (asked : TransferRequest) (old new : Reader) (before now after : Option (List ℕ)) (message : List ℕ) → HasCome asked old before now → TakesFrame message now after → FedAll asked old new message (Ok fed.More) → new.asked ≡ old.asked
    → HasCome asked new before after
comes_on asked old new before now after message come takes feeds same =
    let f = feeds come.messages come.waits in
    let none : outcome_of asked (come.messages ++ message ∷ []) ≡ None = rw (← come.same) f.0 in
    record {
      same = same ∙ come.same;
      messages = come.messages ++ message ∷ [];
      waits = f.1;
      bytes = if_some before _ _ (λ bytes comes. framed_comes asked (come.messages ++ message ∷ []) bytes after (frame_comes asked come.messages message bytes now after comes takes) none) come.bytes;
      taken = takes_more before now after come.taken (frame_taken message now after takes);
    }

-- a reader that has come so far hasn't ended
waits_on : (asked : TransferRequest) (progress : Option Progress) (messages : List (List ℕ)) → WaitsBehind asked progress messages → progress ≡ None → ⊥
waits_on asked None messages waits e = waits
waits_on asked (Some p) messages waits e = absurd cc

pub goes_on : (asked : TransferRequest) (reader : Reader) (before now : Option (List ℕ)) → HasCome asked reader before now → IsFinished reader → ⊥
goes_on asked reader before now come e = waits_on reader.asked reader.progress come.messages come.waits e

pub own_blames : (e : TransferError) (blame : Type 0) → IsOfReader e → BlamesSource e blame
own_blames errors.OutOfMemory blame own = tt
own_blames (errors.Fault ReadFault) blame own = absurd own
own_blames (errors.Fault fault) blame own = tt
