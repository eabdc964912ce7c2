use Rattle.audit_recording.proofs.SessionLemmas.Texts.{seconds_short}
use Rattle.audit_recording.proofs.session.kept.put_seconds.Goals as goal

pub returns-in_err-push_str-clause-short : goal.returns-in_err-push_str-clause-short
returns-in_err-push_str-clause-short c = seconds_short c.args.time c.ranges.time.fits

pub returns-in_err-put_number-clause-short : goal.returns-in_err-put_number-clause-short
returns-in_err-put_number-clause-short c = seconds_short c.args.time c.ranges.time.fits

pub returns-in_err-push-clause-short : goal.returns-in_err-push-clause-short
returns-in_err-push-clause-short c = seconds_short c.args.time c.ranges.time.fits

pub returns-clause-short : goal.returns-clause-short
returns-clause-short c = seconds_short c.args.time c.ranges.time.fits
