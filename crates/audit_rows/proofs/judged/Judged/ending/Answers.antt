use Rattle.std.proofs.Common.{subst}
use Rattle.audit_recording.specs.Endings.Told.{IsEnding}
use Rattle.audit_rows.proofs.judged.Judged.ending.Goals as goal

pub returns : goal.returns
returns c judging x named carried is =
    subst (λ b. IsEnding x named carried b c.args.self.now.until c.ending.result) c.is_whole.ensures (c.ending.ensures judging x named carried is.trail)
