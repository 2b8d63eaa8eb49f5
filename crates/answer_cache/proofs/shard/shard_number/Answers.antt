use Rattle.std.proofs.Common.{◌+◌, ◌%◌, ℕ, List, map, ap, ◌∙◌}
use Rattle.std.specs.Char.{to_ascii_lowercase}
use Rattle.std.specs.List.{sum}
use Rattle.dns_name.proofs.WireLemmas.{octets-lowered}
use Rattle.answer_cache.specs.declared.shard.TheConstants.{SHARDS}
use Rattle.answer_cache.proofs.shard.shard_number.Goals as goal

pub returns : goal.returns
returns c =
    let question = c.args.question.now in
    c.remainder.ensures
    ∙ ap (λ (n : ℕ). (n + question.qtype) % SHARDS)
    (c.octet_sum.ensures.sum ∙ ap (λ (octets : List ℕ). sum (map to_ascii_lowercase octets)) c.octets.ensures.octets ∙ ap sum (octets-lowered question.name c.octets.ensures.name.labels))
