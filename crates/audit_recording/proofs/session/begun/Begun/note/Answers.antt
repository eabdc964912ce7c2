use Rattle.std.proofs.Common.{sym, ◌∙◌, ap}
use Rattle.audit_recording.specs.Session.Strays.{Stray, one_more, stray_of}
use Rattle.audit_recording.proofs.SessionLemmas.Strays.{known_pair}
use Rattle.audit_recording.proofs.session.begun.Begun.note.Goals as goal

pub returns-in-Some : goal.returns-in-Some
returns-in-Some c = λ strays are.
    let d : Stray = stray_of c.args.passing.now in
    known_pair d strays (sym c.goes_on.ensures ∙ c.if-not-goes_on.false) c.args.self.now.pairs.items are c.in-Some.place c.add.new.self c.index_mut.result.now
    (sym c.in-Some.ensures) (c.add.ensures ∙ ap (one_more d.frame) c.index_mut.ensures.value)
