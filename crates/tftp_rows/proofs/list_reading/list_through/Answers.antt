use Rattle.std.proofs.Common.{refl}
use Rattle.audit_recording.specs.Session.Opened.{HasRead, IsKnownOf, left_of}
use Rattle.tftp_rows.proofs.FaultLemmas.{same_fault}
use Rattle.tftp_rows.proofs.ListedLemmas.{begins_listing, closed_listing, lists_none, stops_listing}
use Rattle.tftp_rows.proofs.TellingLemmas.{on_err}
use Rattle.tftp_rows.proofs.list_reading.list_through.Goals as goal

pub returns-in_err-opened-clause-part : goal.returns-in_err-opened-clause-part
returns-in_err-opened-clause-part g c named is zero = on_err c.from_residual.result (lists_none g.W.Write.contents c.args.lister.now c.args.lister.now (g.R.Read.remaining c.args.reader) named refl)

pub returns-in_err-listed-clause-part : goal.returns-in_err-listed-clause-part
returns-in_err-listed-clause-part g c named is zero =
    let file = g.R.Read.remaining c.args.reader in
    on_err c.from_residual-in_err-listed.result
    (c.in_err-listed.ensures.part c.args.lister.now file named
    (begins_listing g.W.Write.contents c.args.lister.now (HasRead g.R.Read.remaining file c.in_ok-opened.opened) c.args.session.now named zero c.in_ok-opened.ensures.begun is))

pub returns-in_err-closed-clause-part : goal.returns-in_err-closed-clause-part
returns-in_err-closed-clause-part g c named is zero =
    let file = g.R.Read.remaining c.args.reader in
    let on = c.in_ok-listed.ensures.listed c.args.lister.now file named
    (begins_listing g.W.Write.contents c.args.lister.now (HasRead g.R.Read.remaining file c.in_ok-opened.opened) c.args.session.now named zero c.in_ok-opened.ensures.begun is) in
    on_err c.from_residual-in_err-closed.result
    (stops_listing g.W.Write.contents {Q = IsKnownOf c.list_frames-listed.new.opened} c.args.lister.now c.list_frames-listed.new.lister file (left_of g.R.Read.remaining c.list_frames-listed.new.opened) c.list_frames-listed.new.opened.recording c.list_frames-listed.new.session named on)

pub returns-clause-listed : goal.returns-clause-listed
returns-clause-listed g c named is zero =
    let file = g.R.Read.remaining c.args.reader in
    let on = c.in_ok-listed.ensures.listed c.args.lister.now file named
    (begins_listing g.W.Write.contents c.args.lister.now (HasRead g.R.Read.remaining file c.in_ok-opened.opened) c.args.session.now named zero c.in_ok-opened.ensures.begun is) in
    closed_listing g.W.Write.contents {Q = IsKnownOf c.list_frames-listed.new.opened} c.args.lister.now c.list_frames-listed.new.lister file (left_of g.R.Read.remaining c.list_frames-listed.new.opened) c.list_frames-listed.new.opened.recording c.list_frames-listed.new.session c.close-closed.new.session named on
    (c.in_ok-listed.ensures.at_end c.in_ok-opened.ensures.open) c.in_ok-listed.ensures.ends c.in_ok-closed.ensures.fault
    (λ out history carried s after. c.in_ok-closed.ensures.closed named out history carried s after)

pub returns-in_err-listed-clause-why : goal.returns-in_err-listed-clause-why
returns-in_err-listed-clause-why g c named is zero =
    let file = g.R.Read.remaining c.args.reader in
    same_fault c.from_residual-in_err-listed.result _ _ c.from_residual-in_err-listed.ensures.1
    (c.in_err-listed.ensures.why c.args.lister.now file named
    (begins_listing g.W.Write.contents c.args.lister.now (HasRead g.R.Read.remaining file c.in_ok-opened.opened) c.args.session.now named zero c.in_ok-opened.ensures.begun is))

pub returns-in_err-closed-clause-why : goal.returns-in_err-closed-clause-why
returns-in_err-closed-clause-why g c named is zero =
    let file = g.R.Read.remaining c.args.reader in
    let on = c.in_ok-listed.ensures.listed c.args.lister.now file named
    (begins_listing g.W.Write.contents c.args.lister.now (HasRead g.R.Read.remaining file c.in_ok-opened.opened) c.args.session.now named zero c.in_ok-opened.ensures.begun is) in
    same_fault c.from_residual-in_err-closed.result _ _ c.from_residual-in_err-closed.ensures.1 (c.in_err-closed.ensures.why file on.history on.read)

pub returns-in_err-opened-clause-why : goal.returns-in_err-opened-clause-why
returns-in_err-opened-clause-why g c named is zero = same_fault c.from_residual.result _ _ c.from_residual.ensures.1 c.in_err-opened.ensures.why
