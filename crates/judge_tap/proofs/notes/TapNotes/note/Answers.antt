use Rattle.std.proofs.Common.{◌≡◌, ◌∷◌, sym, subst, ap, ◌∙◌}
use Rattle.tftp_packet.specs.{meaning, Spells, End, Packet}
use Rattle.judge_tap.specs.{IsOtherError, AreNotes, AreSeen, IsNew, IsNewBlock, Notes, Seen, stop_of}
use Rattle.law_model.proofs.Results.{where_err}
use Rattle.judge_tap.proofs.NotesAfter.{error_noted, quiet_noted, on_ok, on_err, not_error, stop_same, block_new, error_new}
use Rattle.judge_tap.proofs.notes.TapNotes.note.Goals as goal
use Rattle.judge_tap.proofs.notes.TapNotes.note.Goals.{in-Error+in_ok-note_error, in_default}

pub returns-clause-ok : goal.returns-clause-ok
returns-clause-ok c = λ s passed d are apart source says first. elim c.match-packet.branch [
  | in-Error+in_ok-note_error w ↦
      let now : Notes = record { seen = c.note.new.self; client = c.self.inside.client; server = c.self.inside.server } in
      let noted = c.self.view_is ∙ w.self-is in
      let seen_is : c.self.inside.seen ≡ c.args.self.now.seen = ap (λ (n : Notes). n.seen) noted ∙ w.note_error.ensures.seen in
      let stops : (e : End) → stop_of now e ≡ stop_of w.note_error.new.self e = λ e. stop_same c.note.new.self c.self.inside.seen c.self.inside.client c.self.inside.server e ∙ ap (λ (n : Notes). stop_of n e) noted in
      let told = subst (λ (p : Packet). Spells d.payload (meaning p)) w.in-Error.is says in
      let still = subst (λ (p : Packet). IsOtherError s passed c.args.end (meaning p) → ⊥) w.in-Error.is first in
      on_ok (AreSeen c.note.new.self (d ∷ passed)) (AreNotes now s (d ∷ passed)) c.note.result
      (λ seen. error_noted s passed d apart c.args.end source c.args.self.now now w.in-Error.code w.in-Error.message.now are told still seen
      (stops c.args.end ∙ w.in_ok-note_error.ensures.kept) (λ e other. stops e ∙ w.note_error.ensures.others e other))
      (c.note.ensures.ok passed d (subst (λ (x : Seen). AreSeen x passed) (sym seen_is) are.seen) says)
  | in_default w ↦
      let now : Notes = record { seen = c.note.new.self; client = c.self.inside.client; server = c.self.inside.server } in
      let noted = c.self.view_is ∙ w.self-is in
      let seen_is : c.self.inside.seen ≡ c.args.self.now.seen = ap (λ (n : Notes). n.seen) noted in
      let stops : (e : End) → stop_of now e ≡ stop_of c.args.self.now e = λ e. stop_same c.note.new.self c.self.inside.seen c.self.inside.client c.self.inside.server e ∙ ap (λ (n : Notes). stop_of n e) noted in
      on_ok (AreSeen c.note.new.self (d ∷ passed)) (AreNotes now s (d ∷ passed)) c.note.result
      (λ seen. quiet_noted s passed d apart c.args.end source c.args.self.now now (meaning c.args.packet.now) are says (not_error c.args.packet.now w.in_default.not-Error) seen stops)
      (c.note.ensures.ok passed d (subst (λ (x : Seen). AreSeen x passed) (sym seen_is) are.seen) says)
]

pub returns-clause-absent : goal.returns-clause-absent
returns-clause-absent c = λ s passed are. elim c.match-packet.branch [
  | in-Error+in_ok-note_error w ↦
      let noted = c.self.view_is ∙ w.self-is in
      let seen_is : c.self.inside.seen ≡ c.args.self.now.seen = ap (λ (n : Notes). n.seen) noted ∙ w.note_error.ensures.seen in
      on_err (IsNewBlock passed (meaning c.args.packet.now)) (IsNew s passed c.args.end (meaning c.args.packet.now)) c.note.result (block_new s passed c.args.end (meaning c.args.packet.now))
      (c.note.ensures.absent passed (subst (λ (x : Seen). AreSeen x passed) (sym seen_is) are.seen))
  | in_default w ↦
      let noted = c.self.view_is ∙ w.self-is in
      let seen_is : c.self.inside.seen ≡ c.args.self.now.seen = ap (λ (n : Notes). n.seen) noted in
      on_err (IsNewBlock passed (meaning c.args.packet.now)) (IsNew s passed c.args.end (meaning c.args.packet.now)) c.note.result (block_new s passed c.args.end (meaning c.args.packet.now))
      (c.note.ensures.absent passed (subst (λ (x : Seen). AreSeen x passed) (sym seen_is) are.seen))
]

pub returns-in_err-note_error-clause-absent : goal.returns-in_err-note_error-clause-absent
returns-in_err-note_error-clause-absent c = λ s passed are. where_err c.from_residual.result
    (subst (λ (p : Packet). IsNew s passed c.args.end (meaning p)) (sym c.in-Error.is)
    (error_new s passed c.args.end c.args.self.now are c.in-Error.code c.in-Error.message.now c.in_err-note_error.ensures.absent))
