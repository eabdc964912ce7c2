use Rattle.std.proofs.Common.{sym}
use Rattle.tftp_rows.proofs.times.times_told.Goals as goal

pub returns : goal.returns
returns c judging x named carried h = rw (sym c.bytes.ensures) (c.of.ensures judging x named carried (rw c.trail.ensures h.trail))
