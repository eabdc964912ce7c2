use Rattle.std.proofs.Common.{refl, subst}
use Rattle.audit_recording.specs.Session.Noted.{AreNotesOf, frames_in, giving_up}
use Rattle.audit_recording.specs.Session.Opened.{left_of}
use Rattle.audit_recording.proofs.SessionLemmas.Faults.{refused_behind}
use Rattle.audit_recording.proofs.session.opened.Opened.close.Goals as goal

pub returns-in-Ok-clause-closed : goal.returns-in-Ok-clause-closed
returns-in-Ok-clause-closed g c named out history carried s is =
    let noted = c.in-Ok.ensures.stands s is.kept.notes in
    let kept = subst (λ waiting. AreNotesOf c.lose_all-closed.new.self (giving_up (frames_in waiting) s)) c.into_waiting.ensures noted in
    record {
      noticed = is.noticed;
      kept = record {
        audit = is.kept.audit;
        notes = record { losses = kept.losses; frames = kept.frames; discards = kept.discards; clock = kept.clock; kinds = kept.kinds; behind = kept.behind; begun = kept.begun; asked = kept.asked };
        trails = is.kept.trails;
        texts = is.kept.texts;
        beside = is.kept.beside;
        unreached = is.kept.unreached;
      };
      may_lose = refl;
      dropped = c.lost-dropped.ensures;
    }

pub returns-clause-why : goal.returns-clause-why
returns-clause-why g c file history read = refused_behind file history c.args.self.frames (c.args.self.recording, read.0, left_of g.R.Read.remaining c.args.self, read.1, read.2) read.3.1
