use Rattle.policy_feed.proofs.FitZones.{refused_for_rows}
use Rattle.policy_feed.proofs.laws.a_transfer_that_is_read_fits_the_serial.Goals as goal

pub returns : goal.returns
returns c = refused_for_rows
