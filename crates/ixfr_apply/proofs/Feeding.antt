-- What a message does to a reader.
use Rattle.std.proofs.Common.{◌≡◌, ℕ, ◌-◌, List, [], ◌∷◌, ◌++◌, Option, Some, None, Result, Ok, Err, refl, sym, ap, ◌∙◌, append-nil, subst, arith}
use Rattle.std.specs.List.{flat_map}
use Rattle.std.proofs.lemmas.Grind.{flat_map-append}
use Rattle.dns_name.specs.Reading.{◌>>=◌}
use Rattle.zone_rows.specs.declared.transfer.Transfer.{Transfer}
use Rattle.axfr_apply.specs.declared.transfer_request.TransferRequest.{TransferRequest}
use Rattle.axfr_apply.specs.declared.fault.TransferError.{TransferError}
use Rattle.axfr_apply.specs.declared.fault.TransferError.TheVariants as errors
use Rattle.axfr_apply.specs.declared.fault.TransferFault.{TransferFault}
use Rattle.axfr_apply.specs.declared.taken.Taken.TheVariants as taken
use Rattle.axfr_apply.specs.Block.{blocks, transfer_of}
use Rattle.axfr_apply.specs.Item.{TransferItem, items, items_of, records}
use Rattle.axfr_apply.specs.Reading.{TransferOutcome, first_end, outcome_of}
use Rattle.ixfr_apply.specs.declared.progress.Progress.{Progress}
use Rattle.ixfr_apply.specs.declared.reader.Fed.{Fed}
use Rattle.ixfr_apply.specs.declared.reader.Fed.TheVariants as fed
use Rattle.ixfr_apply.specs.Feeding.{Reader, Stands, WaitsBehind, Waits, Feeds, FeedOutcome, more, current_at, done, transfer_outcome, next_outcome, feed_outcome, Meets, Falls, progress_left, left_of}
use Rattle.ixfr_apply.specs.Progress.{Next, on, current, message_run, new_progress}
use Rattle.ixfr_apply.proofs.Counting.{message_rises}
use Rattle.ixfr_apply.proofs.Ends.{first_end-behind}
use Rattle.ixfr_apply.proofs.Standing.{Agrees, GoesByRecords, message_agrees}

-- how a message ends a transfer, by what it does to the reader
abbrev pub outcome_by : Result FeedOutcome TransferFault → Option TransferOutcome
outcome_by (Ok (more p)) = None
outcome_by (Ok (current_at theirs)) = Some (Ok (taken.Current theirs))
outcome_by (Ok (done transfer)) = Some (Ok (taken.New transfer))
outcome_by (Err fault) = Some (Err fault)

items-more : (messages : List (List ℕ)) (octets : List ℕ) → items (messages ++ octets ∷ []) ≡ items messages ++ items_of octets
unfolding items
items-more messages octets = flat_map-append items_of messages (octets ∷ []) ∙ ap (λ (l : List TransferItem). flat_map items_of messages ++ l) (append-nil (items_of octets))

same_more : (p q : Progress) → more p ≡ more q → p ≡ q
same_more p q e = cc

-- what a message does to a reader that waits
pub record Fated (asked : TransferRequest) (p : Progress) (messages : List (List ℕ)) (gives : Result FeedOutcome TransferFault) : Type 0 where
  pub ends : outcome_of asked messages ≡ outcome_by gives
  pub waits : (q : Progress) → gives ≡ Ok (more q) → WaitsBehind asked (Some q) messages

-- where no item ends the transfer, it is what the blocks are
goes_by : (asked : TransferRequest) (p : Progress) (messages : List (List ℕ)) (transfer : Option Transfer) → Stands asked p (items messages) → transfer_of p.gathered ≡ transfer → Fated asked p messages (Ok (transfer_outcome transfer p))
unfolding outcome_of
goes_by asked p messages None stands e =
    let here : transfer_of (blocks (records (items messages))) ≡ None = rw (← stands.gathered) e in
    record { ends = rw (stands.no_end, here) refl; waits = λ q same. subst (λ (x : Progress). WaitsBehind asked (Some x) messages) (same_more p q cc) (stands, e) }
goes_by asked p messages (Some transfer) stands e =
    let here : transfer_of (blocks (records (items messages))) ≡ Some transfer = rw (← stands.gathered) e in
    record { ends = rw (stands.no_end, here) refl; waits = λ q same. absurd cc }

fated_by : (asked : TransferRequest) (p : Progress) (messages : List (List ℕ)) (octets : List ℕ) (run : Result Next TransferFault) → Stands asked p (items messages) → Agrees asked (items messages) (items_of octets) run
    → Fated asked p (messages ++ octets ∷ []) (run >>= next_outcome)
unfolding outcome_of
fated_by asked p messages octets (Err fault) stands agrees =
    let first : first_end asked [] (items (messages ++ octets ∷ [])) ≡ Some (Err fault) = ap (first_end asked []) (items-more messages octets) ∙ first_end-behind asked (items messages) (items_of octets) stands.no_end ∙ agrees in
    record { ends = rw first refl; waits = λ q e. absurd cc }
fated_by asked p messages octets (Ok (current theirs)) stands agrees =
    let first : first_end asked [] (items (messages ++ octets ∷ [])) ≡ Some (Ok theirs) = ap (first_end asked []) (items-more messages octets) ∙ first_end-behind asked (items messages) (items_of octets) stands.no_end ∙ agrees in
    record { ends = rw first refl; waits = λ q e. absurd cc }
fated_by asked p messages octets (Ok (on q)) stands agrees =
    let behind : Stands asked q (items (messages ++ octets ∷ [])) = rw (items-more messages octets) agrees in
    let g = goes_by asked q (messages ++ octets ∷ []) (transfer_of q.gathered) behind refl in
    record { ends = g.ends; waits = g.waits }

pub fated : (goes : GoesByRecords) (asked : TransferRequest) (p : Progress) (messages : List (List ℕ)) (octets : List ℕ) → Stands asked p (items messages) → Fated asked p (messages ++ octets ∷ []) (feed_outcome asked (Some p) octets)
fated goes asked p messages octets stands = fated_by asked p messages octets (message_run asked p octets) stands (message_agrees goes asked p (items messages) octets stands)

-- a reader meets what a message does to it
meets_feeds : (asked : TransferRequest) (p : Progress) (new : Reader) (messages : List (List ℕ)) (gives : Result FeedOutcome TransferFault) (result : Result Fed TransferError) (np : Option Progress) → new.asked ≡ asked → new.progress ≡ np → Fated asked p messages gives → Meets result np gives
    → Feeds result new messages (outcome_of asked messages)
meets_feeds asked p new messages gives (Ok fed.More) None same is f meets = absurd meets
meets_feeds asked p new messages gives (Ok fed.More) (Some q) same is f meets =
    (f.ends ∙ ap outcome_by meets, rw (same, is) (f.waits q meets))
meets_feeds asked p new messages gives (Ok (fed.Current theirs)) np same is f meets = (f.ends ∙ ap outcome_by meets.0, is ∙ meets.1)
meets_feeds asked p new messages gives (Ok (fed.Done transfer)) np same is f meets = (f.ends ∙ ap outcome_by meets.0, is ∙ meets.1)
meets_feeds asked p new messages gives (Err errors.OutOfMemory) np same is f meets = is ∙ meets
meets_feeds asked p new messages gives (Err (errors.Fault fault)) np same is f meets = (f.ends ∙ ap outcome_by meets.0, is ∙ meets.1)

feeds_by : (goes : GoesByRecords) (asked : TransferRequest) (old : Option Progress) (new : Reader) (messages : List (List ℕ)) (octets : List ℕ) (result : Result Fed TransferError) → new.asked ≡ asked → WaitsBehind asked old messages → Meets result new.progress (feed_outcome asked old octets)
    → Feeds result new (messages ++ octets ∷ []) (outcome_of asked (messages ++ octets ∷ []))
feeds_by goes asked None new messages octets result same waits meets = absurd waits
feeds_by goes asked (Some p) new messages octets result same waits meets = meets_feeds asked p new (messages ++ octets ∷ []) (feed_outcome asked (Some p) octets) result new.progress same refl (fated goes asked p messages octets waits.0) meets

meets_old : (old : Reader) (new : Option Progress) (p : Progress) (asked : TransferRequest) (octets : List ℕ) (result : Result Fed TransferError) → old.asked ≡ asked → old.progress ≡ Some p → Meets result new (feed_outcome asked (Some p) octets)
    → Meets result new (feed_outcome old.asked old.progress octets)
meets_old old new p asked octets result same is meets =
    subst (λ (o : Option Progress). Meets result new (feed_outcome old.asked o octets)) (sym is) (subst (λ (a : TransferRequest). Meets result new (feed_outcome a (Some p) octets)) (sym same) meets)

-- what a message does to a reader that has come so far
pub feeds : (goes : GoesByRecords) (old new : Reader) (p : Progress) (asked : TransferRequest) (octets : List ℕ) (result : Result Fed TransferError) → old.asked ≡ asked → old.progress ≡ Some p → new.asked ≡ asked → Meets result new.progress (feed_outcome asked (Some p) octets)
    → (messages : List (List ℕ)) → Waits old messages → Feeds result new (messages ++ octets ∷ []) (outcome_of old.asked (messages ++ octets ∷ []))
feeds goes old new p asked octets result same is after meets messages waits =
    feeds_by goes old.asked old.progress new messages octets result (after ∙ sym same) waits (meets_old old new.progress p asked octets result same is meets)

more_is : (transfer : Option Transfer) (p q : Progress) → transfer_outcome transfer p ≡ more q → p ≡ q
more_is None p q e = same_more p q e
more_is (Some transfer) p q e = absurd cc

run_more : (run : Result Next TransferFault) (q : Progress) → (let gives : Result FeedOutcome TransferFault = run >>= next_outcome in gives ≡ Ok (more q)) → run ≡ Ok (on q)
run_more (Err fault) q e = absurd cc
run_more (Ok (current theirs)) q e = absurd cc
run_more (Ok (on p)) q e = let fated : transfer_outcome (transfer_of p.gathered) p ≡ more q = cc in ap (λ (x : Progress). Ok (on x)) (more_is (transfer_of p.gathered) p q fated)

falls_by : (asked : TransferRequest) (p : Progress) (np : Option Progress) (octets : List ℕ) (result : Result Fed TransferError) → Meets result np (feed_outcome asked (Some p) octets) → Falls result (asked.most - p.count) (progress_left asked np)
falls_by asked p None octets (Ok fed.More) meets = absurd meets
falls_by asked p (Some q) octets (Ok fed.More) meets = let rises = message_rises asked p q octets (run_more (message_run asked p octets) q meets) in omega (arith, rises.0, rises.1)
falls_by asked p np octets (Ok (fed.Current theirs)) meets = tt
falls_by asked p np octets (Ok (fed.Done transfer)) meets = tt
falls_by asked p np octets (Err e) meets = tt

left_is : (old : Reader) (p : Progress) (asked : TransferRequest) → old.asked ≡ asked → old.progress ≡ Some p → left_of old ≡ asked.most - p.count
left_is old p asked same is = ap (λ (o : Option Progress). progress_left old.asked o) is ∙ ap (λ (a : TransferRequest). a.most - p.count) same

pub falls : (old new : Reader) (p : Progress) (asked : TransferRequest) (octets : List ℕ) (result : Result Fed TransferError) → old.asked ≡ asked → old.progress ≡ Some p → new.asked ≡ asked → Meets result new.progress (feed_outcome asked (Some p) octets)
    → Falls result (left_of old) (left_of new)
falls old new p asked octets result same is after meets =
    let left : left_of new ≡ progress_left asked new.progress = ap (λ (a : TransferRequest). progress_left a new.progress) after in
    subst (λ (n : ℕ). Falls result n (left_of new)) (sym (left_is old p asked same is))
    (subst (λ (n : ℕ). Falls result (asked.most - p.count) n) (sym left) (falls_by asked p new.progress octets result meets))

-- nothing came yet
pub none_waits : (asked : TransferRequest) → Stands asked new_progress (items [])
unfolding items first_end records
none_waits asked = record { count = refl; no_end = refl; gathered = refl }
