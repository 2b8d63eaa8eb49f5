-- The numbers of a report.
use Rattle.rpz_workers.specs.declared.report.Report.{Report}
use Rattle.rpz_workers.specs.Reporting.{Counts}

-- The counts of a report.
abbrev pub counts_of : Report → Counts
counts_of r =
    record {
      jobs = r.jobs;
      replies = r.replies;
      silent = r.silent;
      memory = r.memory;
      failed = r.failed;
    }
