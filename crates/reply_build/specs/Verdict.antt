-- What is decided of a query.
use Rattle.std.specs.Prelude.{ℕ, List}
use Rattle.dns_name.specs.Labels.{Name}
use Rattle.dns_record.specs.Record.{PlainRecord}
use Rattle.action_codec.specs.Seen.{action_seen}
use Rattle.action_codec.specs.declared.action.Action.{Action}
use Rattle.reply_build.specs.declared.verdict.Verdict.{Verdict}
use Rattle.reply_build.specs.declared.verdict.Verdict.TheVariants.{Pass, Fail, Hit}

-- What is decided of a query: no rule is about it, there is no answer, or a rule decides. The rule does this, its zone has this
-- SOA record, and it decides at this name, behind these names of the chain of aliases.
pub data PlainVerdict : Type 0 where
  passes : PlainVerdict
  fails : PlainVerdict
  applies : Action → PlainRecord → List Name → Name → PlainVerdict

-- what the code has by reference
abbrev pub verdict_of : Verdict → PlainVerdict
verdict_of Pass = passes
verdict_of Fail = fails
verdict_of (Hit action soa before name) = applies (action_seen action.now) soa.now before.now name.now
