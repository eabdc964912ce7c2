use Rattle.audit_recording.specs.Session.Opened.{HasRead, IsKnownOf, IsReadFaultOf, left_of}
use Rattle.audit_recording.proofs.SessionLemmas.Reading.{begins_reading, closed_reading}
use Rattle.audit_recording.proofs.SessionLemmas.Faults.{same_fault}
use Rattle.audit_recording.proofs.session.opened.read_whole.Goals as goal

pub returns-clause-read : goal.returns-clause-read
returns-clause-read g c named is =
    let file = g.R.Read.remaining c.args.reader in
    let on = c.in_ok-read.ensures.read file named (begins_reading (HasRead g.R.Read.remaining file c.in_ok-opened.opened) c.args.session.now named c.in_ok-opened.ensures.begun is) in
    closed_reading {Q = IsKnownOf c.read_frames-read.new.opened} file (left_of g.R.Read.remaining c.read_frames-read.new.opened) c.read_frames-read.new.opened.recording c.read_frames-read.new.session c.close-closed.new.session named on
    (c.in_ok-read.ensures.at_end c.in_ok-opened.ensures.open) c.in_ok-read.ensures.ends c.in_ok-closed.ensures.fault
    (λ history carried s after. c.in_ok-closed.ensures.closed named _ history carried s after)

pub returns-in_err-opened-clause-why : goal.returns-in_err-opened-clause-why
returns-in_err-opened-clause-why g c named is = same_fault c.from_residual.result _ _ c.from_residual.ensures.1 c.in_err-opened.ensures.why

pub returns-in_err-read-clause-why : goal.returns-in_err-read-clause-why
returns-in_err-read-clause-why g c named is =
    let file = g.R.Read.remaining c.args.reader in
    same_fault c.from_residual-in_err-read.result _ (IsReadFaultOf file) c.from_residual-in_err-read.ensures.1
    (c.in_err-read.ensures.why file named (begins_reading (HasRead g.R.Read.remaining file c.in_ok-opened.opened) c.args.session.now named c.in_ok-opened.ensures.begun is))

pub returns-in_err-closed-clause-why : goal.returns-in_err-closed-clause-why
returns-in_err-closed-clause-why g c named is =
    let file = g.R.Read.remaining c.args.reader in
    let on = c.in_ok-read.ensures.read file named (begins_reading (HasRead g.R.Read.remaining file c.in_ok-opened.opened) c.args.session.now named c.in_ok-opened.ensures.begun is) in
    same_fault c.from_residual-in_err-closed.result _ (IsReadFaultOf file) c.from_residual-in_err-closed.ensures.1 (c.in_err-closed.ensures.why file on.history on.read)
