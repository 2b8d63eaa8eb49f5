use Rattle.std.proofs.Common.{◌≡◌}
use Rattle.upstream_link.specs.Vouched.{PlainLearned}
use Rattle.answer_cache.specs.Recent.{after_look_up}
use Rattle.answer_cache.specs.Shards.{shard_of}
use Rattle.answer_cache.proofs.Belonging.{all-looked_up, all-after}
use Rattle.answer_cache.proofs.shard.Shard.look_up.Goals as goal

pub invariant_of-self : goal.invariant_of-self
invariant_of-self g c =
    let P = λ (entry : PlainLearned). shard_of entry.question ≡ c.self.inside.number in
    let old = c.self.inside.cache in
    all-after P c.look_up.result old c.look_up.new.self (after_look_up c.args.question.now old.entries) c.look_up.ensures.ok c.look_up.ensures.err (all-looked_up P c.args.question.now old.entries c.self.invariant) c.self.invariant
