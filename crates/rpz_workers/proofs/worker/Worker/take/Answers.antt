use Rattle.std.proofs.Common.{refl}
use Rattle.rpz_workers.proofs.worker.Worker.take.Goals as goal

pub returns-in-Connection : goal.returns-in-Connection
returns-in-Connection g c =
    rw c.in-Connection.is (
      refl,
      record {
        ended = record { source = c.serve_stream-end.new.source; sink = c.serve_stream-end.new.sink; why = c.serve_stream-end.result };
        serves = c.serve_stream-end.ensures;
        closings = c.close.ensures.closings;
        sent = c.close.ensures.sent;
        send_faults = c.close.ensures.count;
      },
    )
