-- A run that goes on.
use Rattle.std.proofs.Common.{◌≡◌, ◌∙◌, ◌+◌, ◌-◌, ◌≤◌, ◌==◌, ◌^◌, ℕ, min, Bool, true, false, List, ◌∷◌, Option, None, Result, Ok, Err, refl, sym, ap, arith, cond, subst}
use Rattle.policy_publish.specs.Stores.{Store}
use Rattle.ip_prefix.specs.declared.Transport.{Transport}
use Rattle.ip_prefix.specs.declared.Transport.TheVariants as transport
use Rattle.edge_io.specs.Chain.{Chain, Stage}
use Rattle.edge_io.specs.Edge.{Rose}
use Rattle.server_io.specs.declared.peer.Peer.{Peer}
use Rattle.server_io.specs.Told.{PlainReply}
use Rattle.server_io.specs.declared.replies.SendError.{SendError}
use Rattle.server_io.specs.declared.replies.SendError.TheVariants as send_error
use Rattle.reply_build.specs.declared.said.Said.TheVariants as said
use Rattle.rpz_workers.specs.declared.item.Item.{Item}
use Rattle.rpz_workers.specs.declared.item.Item.TheVariants as item
use Rattle.rpz_workers.specs.declared.outcome.Outcome.{Outcome}
use Rattle.rpz_workers.specs.declared.outcome.Outcome.TheVariants as outcome
use Rattle.rpz_workers.specs.declared.took.Took.{Took}
use Rattle.rpz_workers.specs.declared.took.Took.TheVariants as took
use Rattle.rpz_workers.specs.Handling.{Handles, Sends, StreamViews, WorkerState, sent_after, took_of, took_over}
use Rattle.rpz_workers.specs.Items.{NextItem}
use Rattle.rpz_workers.specs.Replying.{bare_reply}
use Rattle.rpz_workers.specs.Reporting.{Counts, counted, one_more_counted}
use Rattle.rpz_workers.specs.Working.{Handled, RunState, TakesItem, Works, tally}

-- nothing goes back to what is not answered at all
pub nothing_sent : (peer : Peer) (transport : Transport) (message : List ℕ) (what : Outcome) (sent : Option (List PlainReply)) → what ≡ outcome.NoMemory → bare_reply message ≡ None → Sends peer transport message what took.Memory sent sent
nothing_sent peer transport message what sent is none =
    let P : Outcome → Type 0 = λ w. Sends peer transport message w took.Memory sent sent in
    subst P (sym is) (record { tried = Ok tt; sent_is = sym (ap (λ (b : Option (List ℕ)). sent_after sent peer transport b (Ok tt)) none); took_is = refl })

-- where nothing is said, nothing is sent
pub silent_sends : (peer : Peer) (transport : Transport) (message : List ℕ) (what : Outcome) (sent : Option (List PlainReply)) → what ≡ outcome.Said said.Silent → Sends peer transport message what took.Silent sent sent
silent_sends peer transport message what sent is =
    let P : Outcome → Type 0 = λ w. Sends peer transport message w took.Silent sent sent in
    subst P (sym is) (record { tried = Ok tt; sent_is = refl; took_is = refl })

-- where a message is passed on, nothing is sent
pub passed_sends : (peer : Peer) (transport : Transport) (message : List ℕ) (what : Outcome) (sent : Option (List PlainReply)) → what ≡ outcome.PassedOn → Sends peer transport message what took.PassedOn sent sent
passed_sends peer transport message what sent is =
    let P : Outcome → Type 0 = λ w. Sends peer transport message w took.PassedOn sent sent in
    subst P (sym is) (record { tried = Ok tt; sent_is = refl; took_is = refl })

not_stop : (what : Outcome) (tried : Result (Unit {0}) SendError) → took.Stop ≡ took_of what tried → ⊥
not_stop (outcome.Said said.Silent) tried e = cc
not_stop (outcome.Said (said.Reply bytes)) (Ok done) e = cc
not_stop (outcome.Said (said.Reply bytes)) (Err send_error.Failed) e = cc
not_stop (outcome.Said (said.Reply bytes)) (Err send_error.OutOfMemory) e = cc
not_stop outcome.NoMemory (Ok done) e = cc
not_stop outcome.NoMemory (Err send_error.Failed) e = cc
not_stop outcome.NoMemory (Err send_error.OutOfMemory) e = cc
not_stop outcome.PassedOn tried e = cc

no_stop_over : (over : Transport) (became : Took) → (took.Stop ≡ became → ⊥) → took.Stop ≡ took_over over became → ⊥
no_stop_over transport.Udp became not e = not e
no_stop_over transport.Tcp took.Reply not e = cc
no_stop_over transport.Tcp took.Silent not e = cc
no_stop_over transport.Tcp took.Memory not e = cc
no_stop_over transport.Tcp took.Failed not e = cc
no_stop_over transport.Tcp took.PassedOn not e = cc
no_stop_over transport.Tcp took.Framed not e = cc
no_stop_over transport.Tcp took.Closed not e = cc
no_stop_over transport.Tcp took.Learnt not e = cc
no_stop_over transport.Tcp took.Stop not e = cc

-- an item comes to Failed only where its message does
failed_over : (over : Transport) (became : Took) → took.Failed ≡ took_over over became → became ≡ took.Failed
failed_over transport.Udp became e = sym e
failed_over transport.Tcp took.Reply e = let no : ⊥ = cc in absurd no
failed_over transport.Tcp took.Silent e = let no : ⊥ = cc in absurd no
failed_over transport.Tcp took.Memory e = let no : ⊥ = cc in absurd no
failed_over transport.Tcp took.Failed e = let no : ⊥ = cc in absurd no
failed_over transport.Tcp took.PassedOn e = let no : ⊥ = cc in absurd no
failed_over transport.Tcp took.Framed e = let no : ⊥ = cc in absurd no
failed_over transport.Tcp took.Closed e = let no : ⊥ = cc in absurd no
failed_over transport.Tcp took.Learnt e = let no : ⊥ = cc in absurd no
failed_over transport.Tcp took.Stop e = let no : ⊥ = cc in absurd no

-- Stop comes of Stop alone, and changes nothing
pub stop_is_stop : {L N S K : Type 0} (store : Store) (gave : List ℕ → List ℕ → ℕ → Type 0) (passes_on : Bool) (views : StreamViews S K) (before after : WorkerState L S K) (it : Item N S K)
    → Handles store gave passes_on views before it took.Stop after → (it ≡ item.Stop) × (after ≡ before)
stop_is_stop store gave passes_on views before after (item.Job job) h = absurd (no_stop_over job.transport h.became (λ e. not_stop h.what h.sends.tried (e ∙ h.sends.took_is)) h.took_is)
stop_is_stop store gave passes_on views before after (item.Connection source sink client) h = let e = h.0 in absurd (cc)
stop_is_stop store gave passes_on views before after (item.Told list) h = let e = h.0 in absurd (cc)
stop_is_stop store gave passes_on views before after item.Stop h = (refl, h.1)

-- what an item does to the count of failed sends
pub handled_faults : {L N S K : Type 0} (store : Store) (gave : List ℕ → List ℕ → ℕ → Type 0) (passes_on : Bool) (views : StreamViews S K) (before after : WorkerState L S K) (it : Item N S K) (t : Took)
    → Handles store gave passes_on views before it t after → (before.send_faults ≤ after.send_faults) × (t ≡ took.Failed → Rose before.send_faults after.send_faults)
handled_faults store gave passes_on views before after (item.Job job) t h = (h.count, λ f. h.failed (failed_over job.transport h.became (sym f ∙ h.took_is)))
handled_faults store gave passes_on views before after (item.Connection source sink client) t h =
    let e = h.0 in let n : before.send_faults ≤ after.send_faults = omega (arith, h.1.send_faults) in (n, λ f. absurd (cc))
handled_faults store gave passes_on views before after (item.Told list) t h =
    let e = h.0 in let n : before.send_faults ≤ after.send_faults = omega (arith, ap (λ s. s.send_faults) h.1.same) in (n, λ f. absurd (cc))
handled_faults store gave passes_on views before after item.Stop t h =
    let e = h.0 in let n : before.send_faults ≤ after.send_faults = omega (arith, ap (λ s. s.send_faults) h.1) in (n, λ f. absurd (cc))

-- the number of failed jobs, and the count of failed sends
faults_one : (c : Counts) (t : Took) (a m b : ℕ) → min (a + c.failed) (2 ^ 64 - 1) ≤ m → m ≤ b → (t ≡ took.Failed → Rose m b) → min (a + (one_more_counted c t).failed) (2 ^ 64 - 1) ≤ b
faults_one c took.Reply a m b was le rose = omega arith
faults_one c took.Silent a m b was le rose = omega arith
faults_one c took.Memory a m b was le rose = omega arith
faults_one c took.Failed a m b was le rose = let r = rose refl in omega arith
faults_one c took.PassedOn a m b was le rose = omega arith
faults_one c took.Framed a m b was le rose = omega arith
faults_one c took.Closed a m b was le rose = omega arith
faults_one c took.Learnt a m b was le rose = omega arith
faults_one c took.Stop a m b was le rose = omega arith

faults_if : (full : Bool) (c : Counts) (t : Took) (a m b : ℕ) → min (a + c.failed) (2 ^ 64 - 1) ≤ m → m ≤ b → (t ≡ took.Failed → Rose m b) → min (a + (cond full c (one_more_counted c t)).failed) (2 ^ 64 - 1) ≤ b
faults_if true c t a m b was le rose = omega arith
faults_if false c t a m b was le rose = faults_one c t a m b was le rose

pub faults_counted : (c : Counts) (t : Took) (a m b : ℕ) → min (a + c.failed) (2 ^ 64 - 1) ≤ m → m ≤ b → (t ≡ took.Failed → Rose m b) → min (a + (counted c t).failed) (2 ^ 64 - 1) ≤ b
faults_counted c t a m b was le rose = faults_if (c.jobs == 2 ^ 64 - 1) c t a m b was le rose

-- what was handled so far
pub record Worked {L N S K : Type 0} (store : Store) (gave : List ℕ → List ℕ → ℕ → Type 0) (passes_on : Bool) (views : StreamViews S K) (before : RunState L N S K) (counts : Counts) (now : RunState L N S K) : Type 0 where
  pub stages : List (Stage (RunState L N S K) (Handled N S K))
  pub chain : Chain (TakesItem store gave passes_on views) before stages now
  pub counts_are : counts ≡ tally stages

-- one item more
pub worked_more : {L N S K : Type 0} (store : Store) (gave : List ℕ → List ℕ → ℕ → Type 0) (passes_on : Bool) (views : StreamViews S K) (before : RunState L N S K) (counts : Counts) (now after : RunState L N S K) (handled : Handled N S K)
    → Worked store gave passes_on views before counts now → TakesItem store gave passes_on views now handled after → Worked store gave passes_on views before (counted counts handled.took) after
worked_more store gave passes_on views before counts now after handled was takes =
    record { stages = record { turn = handled; before = now } ∷ was.stages; chain = (takes, was.chain); counts_are = ap (λ c. counted c handled.took) was.counts_are }

-- the end of a run
pub stopped : {L N S K : Type 0} (store : Store) (gave : List ℕ → List ℕ → ℕ → Type 0) (passes_on : Bool) (views : StreamViews S K) (before now : RunState L N S K) (counts : Counts) (it : Item N S K) (t : Took) (after : RunState L N S K)
    → Worked store gave passes_on views before counts now → NextItem now.coming it after.coming → Handles store gave passes_on views now.state it t after.state → t ≡ took.Stop
    → Works store gave passes_on views before counts after
stopped {L} {N} {S} {K} store gave passes_on views before now counts it t after was next handles e =
    let P : Took → Type 0 = λ x. Handles store gave passes_on views now.state it x after.state in
    let stop = stop_is_stop store gave passes_on views now.state after.state it (subst P e handles) in
    let Q : Item N S K → Type 0 = λ x. NextItem now.coming x after.coming in
    record { stages = was.stages; last = now; chain = was.chain; stops = subst Q stop.0 next; state = stop.1; counts_are = was.counts_are }
