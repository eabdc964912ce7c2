use Rattle.std.proofs.Common.{◌∷◌, None, sym, ap, subst, ◌∙◌}
use Rattle.audit_flows.specs.Lines.{Recorded}
use Rattle.audit_recording.specs.declared.blame.pace.Pace.{Pace}
use Rattle.audit_recording.specs.Endings.Pace.{IsPaceOf, IsSent, or_later, reach_of}
use Rattle.audit_recording.proofs.BlameLemmas.Pacing.{again_is, no_silence, noted_all, silence_at, silence_more}
use Rattle.audit_recording.proofs.blame.pace.Pace.note.Goals as goal
use Rattle.audit_recording.proofs.blame.pace.Pace.note.Goals.{in-Some, in_default}

pub returns : goal.returns
returns c x f view was last sends passes same own =
    let old = c.args.self.now in
    let mid = c.note_sent-is_again.new.self in
    let reach = c.reach_of-reach.ensures ∙ ap reach_of (passes.payload ∙ sym (ap (λ (d : Recorded). d.payload) same)) in
    let sent = subst (λ r. IsSent c.args.sender old mid r c.note_sent-is_again.result) reach c.note_sent-is_again.ensures.sent in
    let again = again_is x f view old mid was c.note_sent-is_again.result c.args.sender sends sent in
    let before = c.note_sent-is_again.ensures.silence ∙ was.silence in
    let began = ap (λ t. or_later t c.args.passing.now.time) c.note_sent-is_again.ensures.began ∙ ap (or_later old.began) passes.time in
    elim c.match-last.branch [
      | in-Some w ↦
          let ends = w.silence_of-silence.ensures f passes ∙ silence_at x f view w.in-Some.word (sym w.in-Some.is ∙ last) c.args.sender c.note_sent-is_again.result sends again in
          subst (λ (p : Pace). IsPaceOf (record { began = c.or_later-self.result; silence = p.silence; client = p.client; server = p.server }) x (f ∷ view)) (sym w.self-is)
          (noted_all x f view old mid was c.note_sent-is_again.result own c.args.sender sends sent c.or_later-self.result
          (c.or_later-self.ensures ∙ ap (λ (p : Pace). or_later p.began c.args.passing.now.time) w.self-is ∙ began)
          w.longer-self.result (w.longer-self.ensures ∙ silence_more x f view own w.silence_of-silence.result mid.silence ends before))
      | in_default w ↦
          subst (λ (p : Pace). IsPaceOf (record { began = c.or_later-self.result; silence = p.silence; client = p.client; server = p.server }) x (f ∷ view)) (sym w.self-is)
          (noted_all x f view old mid was c.note_sent-is_again.result own c.args.sender sends sent c.or_later-self.result
          (c.or_later-self.ensures ∙ ap (λ (p : Pace). or_later p.began c.args.passing.now.time) w.self-is ∙ began)
          mid.silence (silence_more x f view own None mid.silence (no_silence x f view (sym w.in_default.is ∙ last)) before))
    ]
