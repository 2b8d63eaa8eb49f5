-- When a zone is polled next, by the last event about it.
use Rattle.std.proofs.Common.{◌≡◌, ℕ, ◌+◌, true, Option, List, [], ◌∷◌, refl, ap, ◌∙◌}
use Rattle.std.specs.List.{list_all}
use Rattle.ip_prefix.specs.declared.Addr.{Addr}
use Rattle.notify_poll.specs.History.{PollEvent, Notice, Begin, End, is_at_once, moment_after, retry_after, timer_after}
use Rattle.notify_poll.specs.Timers.{first_timer, next_stage, noted_stage, pause}
use Rattle.notify_poll.specs.declared.timer.Polling.TheVariants.{Done, Faulty}
use Rattle.notify_poll.specs.declared.timer.TimerStage.{TimerStage}
use Rattle.notify_poll.specs.declared.timer.TimerStage.TheVariants.{Waits}

pub retry_is : (start : ℕ) (primary : Option Addr) (events : List PollEvent) → (timer_after (first_timer start primary) events).retry ≡ retry_after events
retry_is start primary [] = refl
retry_is start primary (Notice place second ∷ earlier) = retry_is start primary earlier
retry_is start primary (Begin place ∷ earlier) = retry_is start primary earlier
retry_is start primary (End place (Done refresh retry) second ∷ earlier) = refl
retry_is start primary (End place Faulty second ∷ earlier) = retry_is start primary earlier

pub primary_is : (start : ℕ) (primary : Option Addr) (events : List PollEvent) → (timer_after (first_timer start primary) events).primary ≡ primary
primary_is start primary [] = refl
primary_is start primary (Notice place second ∷ earlier) = primary_is start primary earlier
primary_is start primary (Begin place ∷ earlier) = primary_is start primary earlier
primary_is start primary (End place (Done refresh retry) second ∷ earlier) = primary_is start primary earlier
primary_is start primary (End place Faulty second ∷ earlier) = primary_is start primary earlier

pub stage_is : (start : ℕ) (primary : Option Addr) (events : List PollEvent) → list_all is_at_once events ≡ true → (timer_after (first_timer start primary) events).stage ≡ Waits (moment_after start events)
stage_is start primary [] at_once = refl
stage_is start primary (Notice place second ∷ earlier) at_once = ap (noted_stage second) (stage_is start primary earlier at_once)
stage_is start primary (Begin place ∷ earlier) at_once = absurd cc
stage_is start primary (End place (Done refresh retry) second ∷ earlier) at_once =
    ap (next_stage (second + pause refresh)) (stage_is start primary earlier at_once)
stage_is start primary (End place Faulty second ∷ earlier) at_once =
    ap (next_stage (second + pause (timer_after (first_timer start primary) earlier).retry)) (stage_is start primary earlier at_once)
    ∙ ap (λ retry. let s : TimerStage = Waits (second + pause retry) in s) (retry_is start primary earlier)
