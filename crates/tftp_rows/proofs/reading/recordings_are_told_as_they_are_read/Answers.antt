use Rattle.std.proofs.Common.{None}
use Rattle.audit_recording.specs.Session.Opened.{HasRead, may_lose_in}
use Rattle.tftp_rows.specs.Whole.{so_far}
use Rattle.tftp_rows.proofs.ReadingLemmas.{begins_reading}
use Rattle.tftp_rows.proofs.WholeLemmas.{held_told}
use Rattle.tftp_rows.proofs.reading.recordings_are_told_as_they_are_read.Goals as goal

pub returns-clause-begun : goal.returns-clause-begun
returns-clause-begun g c begun file opened session named none zero read is = begins_reading g.W.Write.contents (may_lose_in opened) begun (HasRead g.R.Read.remaining file opened) session named none zero read is

pub returns-clause-held : goal.returns-clause-held
returns-clause-held g c begun old new dropped file opened session named is prints none new_is = (
  is.0,
  is.1,
  is.2,
  is.3,
  is.4.read,
  is.4.session_is,
  held_told g.W.Write.contents (may_lose_in opened) begun old new dropped session.audit.judge.judging named None (so_far is.0 is.1 is.2) is.3 is.4.has_told prints none new_is,
)
