use Rattle.audit_recording.specs.Session.Noted.{frames_in, giving_up}
use Rattle.tftp_rows.specs.ListedWhole.{numbers_in}
use Rattle.tftp_rows.proofs.FaultLemmas.{same_fault}
use Rattle.tftp_rows.proofs.ListedLemmas.{rest_in_part, rest_listed}
use Rattle.tftp_rows.proofs.TellingLemmas.{on_err}
use Rattle.tftp_rows.proofs.list_reading.list_to_end.Goals as goal

pub returns-in_err-list_through-clause-part : goal.returns-in_err-list_through-clause-part
returns-in_err-list_through-clause-part g c named is zero = on_err c.from_residual.result (c.in_err-list_through.ensures.part named is zero)

pub returns-in_err-list_all-clause-part : goal.returns-in_err-list_all-clause-part
returns-in_err-list_all-clause-part g c named is zero =
    let through = c.in_ok-list_through.ensures.listed named is zero in
    on_err c.from_residual-in_err-list_all.result
    (rest_in_part g.W.Write.contents c.args.lister.now c.list_through.new.lister c.list_all.new.self (g.R.Read.remaining c.args.reader) c.list_through.new.session named through
    (c.in_err-list_all.ensures.part named (numbers_in through.entries) through.history through.carried (giving_up (frames_in through.recording.waiting) through.noticed) through.closed.kept))

pub returns-clause-listed : goal.returns-clause-listed
returns-clause-listed g c named is zero =
    let through = c.in_ok-list_through.ensures.listed named is zero in
    rest_listed g.W.Write.contents c.args.lister.now c.list_through.new.lister c.list_all.new.self c.end.new.self (g.R.Read.remaining c.args.reader) c.list_through.new.session c.list_all.new.session named c.is_whole.result through
    c.in_ok-list_all.ensures.notes (λ s noted. c.is_whole.ensures s noted) c.end.ensures
    (c.in_ok-list_all.ensures.turns named (numbers_in through.entries) through.history through.carried (giving_up (frames_in through.recording.waiting) through.noticed) through.closed.kept)

pub returns-in_err-list_through-clause-why : goal.returns-in_err-list_through-clause-why
returns-in_err-list_through-clause-why g c named is zero = same_fault c.from_residual.result _ _ c.from_residual.ensures.1 (c.in_err-list_through.ensures.why named is zero)

pub returns-in_err-list_all-clause-why : goal.returns-in_err-list_all-clause-why
returns-in_err-list_all-clause-why g c named is zero =
    same_fault c.from_residual-in_err-list_all.result _ _ c.from_residual-in_err-list_all.ensures.1 (c.in_err-list_all.ensures.why (g.R.Read.remaining c.args.reader))
