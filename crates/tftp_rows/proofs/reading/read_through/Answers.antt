use Rattle.audit_recording.specs.Session.Opened.{HasRead, IsKnownOf, left_of, may_lose_in}
use Rattle.audit_recording.proofs.SessionLemmas.Opened.{none_lost}
use Rattle.tftp_rows.proofs.FaultLemmas.{same_fault}
use Rattle.tftp_rows.proofs.ReadingLemmas.{begins_reading, closed_then, reads_none, stops_there}
use Rattle.tftp_rows.proofs.TellingLemmas.{on_err}
use Rattle.tftp_rows.proofs.reading.read_through.Goals as goal

pub returns-in_err-opened-clause-part : goal.returns-in_err-opened-clause-part
returns-in_err-opened-clause-part g c named is none zero =
    on_err c.from_residual.result (reads_none g.W.Write.contents c.args.teller.now (g.R.Read.remaining c.args.reader) c.args.session.now.audit.judge.judging named none zero)

pub returns-in_err-read-clause-part : goal.returns-in_err-read-clause-part
returns-in_err-read-clause-part g c named is none zero =
    let file = g.R.Read.remaining c.args.reader in
    on_err c.from_residual-in_err-read.result
    (c.in_err-read.ensures.part c.args.teller.now file named
    (begins_reading g.W.Write.contents (may_lose_in c.in_ok-opened.opened) c.args.teller.now (HasRead g.R.Read.remaining file c.in_ok-opened.opened) c.args.session.now named none zero c.in_ok-opened.ensures.begun is))

pub returns-in_err-closed-clause-part : goal.returns-in_err-closed-clause-part
returns-in_err-closed-clause-part g c named is none zero =
    let file = g.R.Read.remaining c.args.reader in
    let on = c.in_ok-read.ensures.told c.args.teller.now file named
    (begins_reading g.W.Write.contents (may_lose_in c.in_ok-opened.opened) c.args.teller.now (HasRead g.R.Read.remaining file c.in_ok-opened.opened) c.args.session.now named none zero c.in_ok-opened.ensures.begun is) in
    on_err c.from_residual-in_err-closed.result
    (stops_there g.W.Write.contents (may_lose_in c.tell_frames-read.new.opened) {Q = IsKnownOf c.tell_frames-read.new.opened} c.args.teller.now c.tell_frames-read.new.teller file (left_of g.R.Read.remaining c.tell_frames-read.new.opened) c.tell_frames-read.new.opened.recording c.tell_frames-read.new.session c.args.session.now.audit.judge.judging named on
    c.in_ok-read.ensures.judging (λ bytes frames both none. both.0 none))

pub returns-clause-told : goal.returns-clause-told
returns-clause-told g c named is none zero =
    let file = g.R.Read.remaining c.args.reader in
    let on = c.in_ok-read.ensures.told c.args.teller.now file named
    (begins_reading g.W.Write.contents (may_lose_in c.in_ok-opened.opened) c.args.teller.now (HasRead g.R.Read.remaining file c.in_ok-opened.opened) c.args.session.now named none zero c.in_ok-opened.ensures.begun is) in
    closed_then g.W.Write.contents (may_lose_in c.tell_frames-read.new.opened) {Q = IsKnownOf c.tell_frames-read.new.opened} c.args.teller.now c.tell_frames-read.new.teller file (left_of g.R.Read.remaining c.tell_frames-read.new.opened) c.tell_frames-read.new.opened.recording c.tell_frames-read.new.session c.close-closed.new.session named on
    (c.in_ok-read.ensures.at_end c.in_ok-opened.ensures.open) c.in_ok-read.ensures.ends c.in_ok-closed.ensures.judging c.in_ok-closed.ensures.fault
    (λ out history carried s after. c.in_ok-closed.ensures.closed named out history carried s after)
    (λ history read. none_lost g.R.Read.remaining file c.tell_frames-read.new.opened history read)
    (λ bytes frames both none. both.0 none)

pub returns-in_err-read-clause-why : goal.returns-in_err-read-clause-why
returns-in_err-read-clause-why g c named is none zero =
    let file = g.R.Read.remaining c.args.reader in
    same_fault c.from_residual-in_err-read.result _ _ c.from_residual-in_err-read.ensures.1
    (c.in_err-read.ensures.why c.args.teller.now file named
    (begins_reading g.W.Write.contents (may_lose_in c.in_ok-opened.opened) c.args.teller.now (HasRead g.R.Read.remaining file c.in_ok-opened.opened) c.args.session.now named none zero c.in_ok-opened.ensures.begun is))

pub returns-in_err-closed-clause-why : goal.returns-in_err-closed-clause-why
returns-in_err-closed-clause-why g c named is none zero =
    let file = g.R.Read.remaining c.args.reader in
    let on = c.in_ok-read.ensures.told c.args.teller.now file named
    (begins_reading g.W.Write.contents (may_lose_in c.in_ok-opened.opened) c.args.teller.now (HasRead g.R.Read.remaining file c.in_ok-opened.opened) c.args.session.now named none zero c.in_ok-opened.ensures.begun is) in
    same_fault c.from_residual-in_err-closed.result _ _ c.from_residual-in_err-closed.ensures.1 (c.in_err-closed.ensures.why file on.0 on.4.read)

pub returns-in_err-opened-clause-why : goal.returns-in_err-opened-clause-why
returns-in_err-opened-clause-why g c named is none zero = same_fault c.from_residual.result _ _ c.from_residual.ensures.1 c.in_err-opened.ensures.why
