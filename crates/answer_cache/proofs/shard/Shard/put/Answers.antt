use Rattle.std.proofs.Common.{◌≡◌, ◌∙◌, sym}
use Rattle.upstream_link.specs.Vouched.{PlainLearned}
use Rattle.answer_cache.specs.Recent.{after_keep}
use Rattle.answer_cache.specs.Shards.{shard_of}
use Rattle.answer_cache.proofs.Belonging.{all-kept, all-after}
use Rattle.answer_cache.proofs.shard.Shard.put.Goals as goal

pub invariant_of-self : goal.invariant_of-self
invariant_of-self g c =
    let P = λ (entry : PlainLearned). shard_of entry.question ≡ c.self.inside.number in
    let old = c.self.inside.cache in
    all-after P c.put.result old c.put.new.self (after_keep old.limit c.args.learned old.entries) c.put.ensures.ok c.put.ensures.err (all-kept P old.limit c.args.learned old.entries (sym c.requires.number ∙ sym c.if-self-number.false) c.self.invariant) c.self.invariant
