-- What a worker's run counts.
use Rattle.std.specs.Prelude.{◌==◌, ◌+◌, ◌-◌, ◌^◌, ℕ, if◌then◌else◌}
use Rattle.rpz_workers.specs.declared.took.Took.{Took}
use Rattle.rpz_workers.specs.declared.took.Took.TheVariants as took

-- the numbers of a report
pub record Counts : Type 0 where
  pub jobs : ℕ
  pub replies : ℕ
  pub silent : ℕ
  pub memory : ℕ
  pub failed : ℕ

abbrev pub no_counts : Counts
no_counts = record { jobs = 0; replies = 0; silent = 0; memory = 0; failed = 0 }

-- a job is counted once among the jobs, and once by what became of it; one that was passed on is counted by who answers it, and
-- nothing else is counted
abbrev pub one_more_counted : Counts → Took → Counts
one_more_counted c took.Reply = record c { jobs = c.jobs + 1; replies = c.replies + 1 }
one_more_counted c took.Silent = record c { jobs = c.jobs + 1; silent = c.silent + 1 }
one_more_counted c took.Memory = record c { jobs = c.jobs + 1; memory = c.memory + 1 }
one_more_counted c took.Failed = record c { jobs = c.jobs + 1; failed = c.failed + 1 }
one_more_counted c _ = c

-- the same in 64 bits: once there are 2^64 - 1 jobs, no number rises any more
abbrev pub counted : Counts → Took → Counts
counted c t = if c.jobs == 2 ^ 64 - 1 then c else one_more_counted c t
