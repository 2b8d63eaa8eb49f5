use Rattle.std.proofs.Common.{◌≡◌}
use Rattle.policy_feed.specs.Feed.{PlainFeeder}
use Rattle.policy_feed.specs.Hastening.{hastened_among}
use Rattle.policy_feed.proofs.feeder.Feeder.hasten.Given as goal

abbrev pub invariant-loop-place : goal.invariant-loop-place
invariant-loop-place g l =
    l.self ≡ (let x : PlainFeeder = record l.initial.self { timers = hastened_among l.now l.initial.self l.place } in x)
