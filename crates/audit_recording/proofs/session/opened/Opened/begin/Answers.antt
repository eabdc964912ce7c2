use Rattle.std.proofs.Common.{[], refl, sym, ◌∙◌}
use Rattle.net_udp.proofs.RecordingLemmas.Lossless.{begins_lossless}
use Rattle.audit_recording.proofs.session.opened.Opened.begin.Goals as goal

pub returns-in-Ok-clause-begun : goal.returns-in-Ok-clause-begun
returns-in-Ok-clause-begun g c =
    let read = c.in-Ok.ensures.ok in (
      read.0,
      rw c.new.ensures.inner at (rw c.new-reader.ensures at read.1),
      read.2,
      (λ quiet. begins_lossless c.in-Ok.recording read.0 [] read.2 (sym c.may_lose.ensures ∙ quiet), refl),
    )

pub returns-in-Err-clause-why : goal.returns-in-Err-clause-why
returns-in-Err-clause-why g c = c.refused.ensures (g.R.Read.remaining c.args.reader) _ (rw c.new.ensures.inner at (rw c.new-reader.ensures at c.in-Err.ensures.err))
