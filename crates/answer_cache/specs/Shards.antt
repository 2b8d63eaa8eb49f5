-- To which shard of a shared cache a question belongs.
use Rattle.std.specs.Prelude.{◌≡◌, ℕ, ◌+◌, ◌%◌, List}
use Rattle.std.specs.List.{AllByRecursion, sum}
use Rattle.dns_name.specs.Labels.{lowered, name_octets}
use Rattle.dns_message.specs.declared.question.Question.{Question}
use Rattle.upstream_link.specs.Vouched.{PlainLearned}
use Rattle.answer_cache.specs.declared.shard.TheConstants.{SHARDS}

-- the octets of the name as it is written, in lower case, are added, and the type
abbrev pub shard_of : Question → ℕ
shard_of question = (sum (name_octets (lowered question.name)) + question.qtype) % SHARDS

-- all entries are about questions that belong to the shard of this number
abbrev pub Belong : ℕ → List PlainLearned → Type 0
Belong number entries =
    AllByRecursion (λ (entry : PlainLearned). shard_of entry.question ≡ number) entries
