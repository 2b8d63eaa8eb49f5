use Rattle.ixfr_apply.proofs.StreamLaw.{stream_reads, reads_only}
use Rattle.ixfr_apply.proofs.laws.a_stream_is_read_by_its_frames.Goals as goal

pub returns-clause-reads : goal.returns-clause-reads
returns-clause-reads c = stream_reads

pub returns-clause-only : goal.returns-clause-only
returns-clause-only c = reads_only
