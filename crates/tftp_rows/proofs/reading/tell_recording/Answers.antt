use Rattle.std.proofs.Common.{ap, subst, sym}
use Rattle.audit_recording.specs.Session.Noted.{frames_in, giving_up}
use Rattle.tftp_rows.specs.Faults.{IsTellFault}
use Rattle.tftp_rows.specs.Whole.{numbers_of}
use Rattle.tftp_rows.specs.declared.teller.Teller.{Teller}
use Rattle.tftp_rows.proofs.FaultLemmas.{same_fault, tell_later}
use Rattle.tftp_rows.proofs.ReadingLemmas.{either_way, part_of_recording, rest_in_part, rest_told}
use Rattle.tftp_rows.proofs.TellingLemmas.{all_so, on_err}
use Rattle.tftp_rows.proofs.reading.tell_recording.Goals as goal

pub returns-in_err-tell_held-clause-part : goal.returns-in_err-tell_held-clause-part
returns-in_err-tell_held-clause-part g c named is none zero =
    let file = g.R.Read.remaining c.args.reader in
    let judging = c.args.session.now.audit.judge.judging in
    let session = c.read_through-read.new.session in
    on_err c.from_residual.result
    (part_of_recording g.W.Write.contents c.args.teller.now c.read_through-read.new.teller c.tell_held.new.self session.notes.dropped file judging named
    (either_way g.W.Write.contents c.read_through-read.result c.args.teller.now c.read_through-read.new.teller file session judging named
    (c.read_through-read.ensures.told named is none zero) (c.read_through-read.ensures.part named is none zero) c.read_through-read.ensures.judging)
    c.in_err-tell_held.ensures.prints c.in_err-tell_held.ensures.held)

pub returns-in_err-read-clause-part : goal.returns-in_err-read-clause-part
returns-in_err-read-clause-part g c named is none zero =
    let session = c.read_through-read.new.session in
    on_err c.from_residual-in_err-read.result
    (part_of_recording g.W.Write.contents c.args.teller.now c.read_through-read.new.teller c.tell_held.new.self session.notes.dropped (g.R.Read.remaining c.args.reader) c.args.session.now.audit.judge.judging named
    (c.in_err-read.ensures.part named is none zero) (all_so g.W.Write.contents session.notes.dropped _ _ _ c.in_ok-tell_held.ensures.prints) c.in_ok-tell_held.ensures.held)

pub returns-in_err-tell_all-clause-part : goal.returns-in_err-tell_all-clause-part
returns-in_err-tell_all-clause-part g c named is none zero =
    let through = c.in_ok-read.ensures.told named is none zero in
    on_err c.from_residual-in_err-tell_all.result
    (rest_in_part g.W.Write.contents c.args.teller.now c.read_through-read.new.teller c.tell_held.new.self c.tell_all.new.self (g.R.Read.remaining c.args.reader) c.read_through-read.new.session c.args.session.now.audit.judge.judging named through
    c.in_ok-tell_held.ensures.prints c.in_ok-tell_held.ensures.held c.in_ok-tell_held.ensures.rest c.in_ok-read.ensures.judging
    (c.in_err-tell_all.ensures.part named (numbers_of through.tellings) through.history through.carried (giving_up (frames_in through.recording.waiting) through.noticed) through.closed.kept))

pub returns-clause-told : goal.returns-clause-told
returns-clause-told g c named is none zero =
    let through = c.in_ok-read.ensures.told named is none zero in
    rest_told g.W.Write.contents c.args.teller.now c.read_through-read.new.teller c.tell_held.new.self c.tell_all.new.self (g.R.Read.remaining c.args.reader) c.read_through-read.new.session c.tell_all.new.session c.args.session.now.audit.judge.judging named through
    c.in_ok-tell_held.ensures.prints c.in_ok-tell_held.ensures.held c.in_ok-tell_held.ensures.rest c.in_ok-read.ensures.judging c.in_ok-tell_all.ensures.notes
    (c.in_ok-tell_all.ensures.turns named (numbers_of through.tellings) through.history through.carried (giving_up (frames_in through.recording.waiting) through.noticed) through.closed.kept)

pub returns-in_err-read-clause-why : goal.returns-in_err-read-clause-why
returns-in_err-read-clause-why g c named is none zero =
    let file = g.R.Read.remaining c.args.reader in
    let mid = c.read_through-read.new.teller in
    let now = c.tell_held.new.self in
    let fault = c.in_err-read.field-0.0 in
    same_fault c.from_residual-in_err-read.result fault (IsTellFault file now.printer.writer.1 now.told) c.from_residual-in_err-read.ensures.1
    (subst (λ told. IsTellFault file now.printer.writer.1 told fault) (sym (ap {A = Teller g.row.W.Denot} (λ t. t.told) c.in_ok-tell_held.ensures.rest))
    (tell_later file mid.printer.writer.1 now.printer.writer.1 mid.told fault c.in_ok-tell_held.ensures.stays (c.in_err-read.ensures.why named is none zero)))

pub returns-in_err-tell_all-clause-why : goal.returns-in_err-tell_all-clause-why
returns-in_err-tell_all-clause-why g c named is none zero =
    same_fault c.from_residual-in_err-tell_all.result _ _ c.from_residual-in_err-tell_all.ensures.1 (c.in_err-tell_all.ensures.why (g.R.Read.remaining c.args.reader))
