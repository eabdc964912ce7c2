use Rattle.std.proofs.Common.{refl}
use Rattle.tftp_rows.proofs.FilesLemmas.{opens_not}
use Rattle.tftp_rows.proofs.ListsLemmas.{file_in_part, file_listed, file_unopened, file_untold}
use Rattle.tftp_rows.proofs.files.list_file.Goals as goal

pub returns-in_err-file : goal.returns-in_err-file
returns-in_err-file g c =
    file_unopened g.W.Write.contents g.E.Write.contents c.args.services.now c.args.name.now c.args.remarks.now c.args.remarks.now g.O.Fault.From.from_gives (g.O.Outside.opens c.args.outside.now c.args.name.now) (record c.args.lister.now { told = 0 }) c.args.lister.now _
    (opens_not (g.O.Outside.opens c.args.outside.now c.args.name.now) c.in_err-file.ensures.opens) refl c.from_residual.result c.from_residual.ensures.0 refl

pub returns-in_err-notes : goal.returns-in_err-notes
returns-in_err-notes g c =
    file_in_part g.W.Write.contents g.E.Write.contents c.args.services.now c.args.name.now c.args.remarks.now c.args.remarks.now (record c.args.lister.now { told = 0 }) c.list_recording.new.lister _ _ c.in_ok-file.ensures.holds
    g.O.Fault.From.from_gives (g.O.Outside.opens c.args.outside.now c.args.name.now) c.from_residual-in_err-notes.result c.in_err-notes.field-0.0 c.from_residual-in_err-notes.ensures.1 refl c.in_err-notes.ensures.part c.in_err-notes.ensures.why

pub returns-in_err-tell_rest : goal.returns-in_err-tell_rest
returns-in_err-tell_rest g c =
    file_untold g.W.Write.contents g.E.Write.contents c.args.services.now c.args.name.now c.args.remarks.now c.tell_rest.new.self (record c.args.lister.now { told = 0 }) c.list_recording.new.lister _ _ c.in_ok-file.ensures.holds
    g.O.Fault.From.from_gives (g.O.Outside.opens c.args.outside.now c.args.name.now) c.from_residual-in_err-tell_rest.result c.in_err-tell_rest.field-0.0 c.from_residual-in_err-tell_rest.ensures.1 c.in_err-tell_rest.ensures.why c.in_ok-notes.notes c.in_ok-notes.ensures.listed
    (λ s noted. c.in_err-tell_rest.ensures.rest s noted)

pub returns : goal.returns
returns g c =
    file_listed g.W.Write.contents g.E.Write.contents c.args.services.now c.args.name.now c.args.remarks.now c.tell_rest.new.self (record c.args.lister.now { told = 0 }) c.list_recording.new.lister _ _ c.in_ok-file.ensures.holds c.in_ok-notes.notes
    c.is_whole.result c.status_of_whole.result c.in_ok-notes.ensures.listed (λ s noted. c.is_whole.ensures s noted) c.status_of_whole.ensures (λ s noted. c.in_ok-tell_rest.ensures.rest s noted)
