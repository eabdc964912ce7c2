use Rattle.std.proofs.Common.{◌∙◌, ℕ, List, ap, nat_eq, refl}
use Rattle.tftp_rows.specs.Faults.{AreWordsOf, Why}
use Rattle.tftp_rows.specs.Files.{CameOf}
use Rattle.tftp_rows.specs.Files.Outcome.{Faulty, Told}
use Rattle.tftp_rows.proofs.FilesLemmas.{later_one, none_counted}
use Rattle.tftp_rows.proofs.RemarksLemmas.{fault_said, line_by}
use Rattle.tftp_rows.proofs.TellingLemmas.{on_err}
use Rattle.tftp_rows.proofs.files.check_file.Goals as goal

pub returns-in-Ok-clause-came : goal.returns-in-Ok-clause-came
returns-in-Ok-clause-came g c none =
    let told = c.in-Ok.ensures.told none in
    (Told told.0 told.1 told.2, told.3, told.4, ap (λ n. nat_eq n 0) told.5 ∙ none_counted told.0 told.1 told.2, (_, refl, told.6))

pub returns-in_ok-tell_fault-in-Err-clause-came : goal.returns-in_ok-tell_fault-in-Err-clause-came
returns-in_ok-tell_fault-in-Err-clause-came g c none =
    let part = c.in-Err.ensures.part none in
    let was = g.E.Write.contents c.tell_file.new.remarks.errors.0 in
    let now = g.E.Write.contents c.tell_fault.new.self.errors.0 in (
      Faulty part.0 part.1,
      later_one g.W.Write.contents c.args.judging c.args.services.now _ _ c.in_ok-tell_fault-in-Err.ensures.stays _ _ _ _ _ (Faulty part.0 part.1) part.3,
      c.max-teller.ensures,
      refl,
      fault_said (g.E.Write.contents c.args.remarks.now.errors.0) was now (AreWordsOf g.O.Fault.From.from_gives g.O.Fault.Display.output) c.args.remarks.now.program.now c.args.name.now part.0 part.1 (g.O.Fault.Display.output c.in-Err.fault)
          (g.met.O.Outside.is_worded c.in-Err.fault) (λ words are. (c.in-Err.fault, part.2, are)) part.4
          (line_by was now _ c.args.remarks.now.program.now c.args.name.now (g.O.Fault.Display.output c.in-Err.fault) (ap (λ r. r.program.now) c.in-Err.ensures.same) c.in_ok-tell_fault-in-Err.ensures.line),
    )

pub returns-in_err-tell_fault-in-Err-clause-part : goal.returns-in_err-tell_fault-in-Err-clause-part
returns-in_err-tell_fault-in-Err-clause-part g c none =
    let part = c.in-Err.ensures.part none in
    let came : (why : Why) × (rest : List (List ℕ)) × CameOf g.W.Write.contents c.tell_fault.new.self.errors.1 (g.O.Outside.opens c.args.outside.now c.args.name.now) c.args.name.now (g.O.Outside.holds c.args.outside.now c.args.name.now) c.args.judging c.args.services.now
    c.args.teller.now.printer c.tell_file.new.teller.printer (Faulty why rest) =
    (part.0, part.1, later_one g.W.Write.contents c.args.judging c.args.services.now _ _ c.tell_fault.ensures.stays _ _ _ _ _ (Faulty part.0 part.1) part.3) in
    on_err _ came
