use Rattle.std.proofs.Common.{◌∙◌, [], ap, max}
use Rattle.tftp_rows.specs.Faults.Why.{Unopened, Stopped}
use Rattle.tftp_rows.proofs.FaultLemmas.{each_fault, fault_so}
use Rattle.tftp_rows.proofs.FilesLemmas.{opens_not, part_file, rest_file, unopened, whole_file}
use Rattle.tftp_rows.proofs.files.tell_file.Goals as goal

pub returns-in_err-reader-clause-part : goal.returns-in_err-reader-clause-part
returns-in_err-reader-clause-part g c none =
    let came = unopened g.W.Write.contents c.args.remarks.now.errors.1 (g.O.Outside.opens c.args.outside.now c.args.name.now) c.args.teller.now.printer c.args.name.now (g.O.Outside.holds c.args.outside.now c.args.name.now)
    c.args.judging c.args.services.now (g.E.Write.contents c.args.remarks.now.errors.0) c.args.remarks.now.program.now (opens_not (g.O.Outside.opens c.args.outside.now c.args.name.now) c.in_err-reader.ensures.opens) in
    each_fault c.from_residual.result _ (λ f. (Unopened, [], tt, came.0, came.1))

pub returns-in_err-notes-clause-part : goal.returns-in_err-notes-clause-part
returns-in_err-notes-clause-part g c none =
    let came = part_file g.W.Write.contents c.args.teller.now c.check_recording.new.teller c.args.name _ _ c.args.judging c.args.services.now c.in_ok-reader.ensures.holds c.args.remarks.now.errors.1 (g.O.Outside.opens c.args.outside.now c.args.name.now) (g.E.Write.contents c.args.remarks.now.errors.0)
    c.args.remarks.now.program.now c.in_err-notes.field-0.0 (c.in_err-notes.ensures.part none) (c.in_err-notes.ensures.why none) in
    fault_so c.from_residual-in_err-notes.result _ g.O.Fault.From.from_gives _ c.from_residual-in_err-notes.ensures.1 (λ f gives. (Stopped c.in_err-notes.field-0.0, [], gives, came.0, came.1))

pub returns-in_err-tell_rest-clause-part : goal.returns-in_err-tell_rest-clause-part
returns-in_err-tell_rest-clause-part g c none =
    let came = rest_file g.W.Write.contents c.args.teller.now c.check_recording.new.teller c.args.name _ _ c.args.judging c.args.services.now c.in_ok-reader.ensures.holds c.tell_rest.new.self.errors.1 (g.O.Outside.opens c.args.outside.now c.args.name.now)
    (g.E.Write.contents c.args.remarks.now.errors.0) (g.E.Write.contents c.tell_rest.new.self.errors.0) c.args.remarks.now.program.now c.in_err-tell_rest.field-0.0 c.in_ok-notes.notes (c.in_ok-notes.ensures.told none) (λ s noted. c.in_err-tell_rest.ensures.rest s noted) c.in_err-tell_rest.ensures.why in
    fault_so c.from_residual-in_err-tell_rest.result _ g.O.Fault.From.from_gives _ c.from_residual-in_err-tell_rest.ensures.1 (λ f gives. (Stopped c.in_err-tell_rest.field-0.0, came.0, gives, came.1, came.2))

pub returns-clause-told : goal.returns-clause-told
returns-clause-told g c none =
    whole_file g.W.Write.contents c.args.teller.now c.check_recording.new.teller c.args.name _ _ c.args.judging c.args.services.now c.in_ok-reader.ensures.holds c.tell_rest.new.self.errors.1 (g.O.Outside.opens c.args.outside.now c.args.name.now)
    (g.E.Write.contents c.args.remarks.now.errors.0) (g.E.Write.contents c.tell_rest.new.self.errors.0) c.args.remarks.now.program.now c.in_ok-notes.notes c.is_whole.result c.max-teller.result (c.in_ok-notes.ensures.told none)
    (λ s noted. c.is_whole.ensures s noted) (c.max-teller.ensures ∙ ap (max c.check_recording.new.teller.status) c.status_of_whole.ensures) (λ s noted. c.in_ok-tell_rest.ensures.rest s noted)
