use Rattle.std.proofs.Common.{◌≡◌, ◌∷◌, arith, subst, ◌∙◌}
use Rattle.std.specs.Prelude.{max, unwrap_or}
use Rattle.audit_recording.specs.Losses.Noted.{Unread}
use Rattle.audit_recording.specs.Losses.Noted.Event.{Loses}
use Rattle.audit_recording.specs.Losses.Kept.{AreLosses}
use Rattle.audit_recording.specs.Reasons.Clock.{last_of}
use Rattle.audit_recording.specs.Session.Hidden.{AreBehindOf, hiding}
use Rattle.audit_recording.specs.Session.Noted.{AreNotesOf, Noticed, giving_up, lost_frames, others, sharers_of, told_in, unread_in}
use Rattle.audit_recording.specs.Session.Told.{AreFramesOf}
use Rattle.audit_recording.proofs.LossesLemmas.Changing.{on_ok}
use Rattle.audit_recording.proofs.SessionLemmas.Lines.{more_lost}
use Rattle.audit_recording.proofs.SessionLemmas.Noting.{up_to_more}
use Rattle.audit_recording.proofs.session.notes.Notes.lose_with.Goals as goal

pub returns-clause-stands : goal.returns-clause-stands
returns-clause-stands c = λ s are low.
    let event = c.args.event.now in
    let reached = c.args.self.now.clock.reached in
    let left : Noticed = giving_up (others event.frame.number (sharers_of event)) s in
    let were : AreNotesOf c.lose_others.new.self (giving_up (others event.frame.number (sharers_of event)) s) =
    subst (λ (t : Noticed). AreNotesOf c.lose_others.new.self t) (λ i. giving_up (others (c.number-frame.ensures i) (c.sharers.ensures i)) s) (c.in_ok-lose_others.ensures.stands s are) in
    let time : c.moment_of-time.result ≡ max (unwrap_or event.frame.parts.time (last_of s.times)) reached =
    c.moment_of-time.ensures s.times were.clock ∙ (λ i. max (unwrap_or (c.time.ensures i) (last_of s.times)) ((c.lose_others.ensures.clock i).reached)) in
    let f : Unread = record { frame = c.number-frame.result; hosts = c.hosts.result; time = c.moment_of-time.result } in
    let same : f ≡ unread_in reached event c.hosts.result s.times = λ i. record { frame = c.number-frame.ensures i; hosts = c.hosts.result; time = time i } in
    on_ok c.lose.result
    (λ losses. (
      c.hosts.result,
      c.unread_header.result,
      c.hosts.ensures,
      c.unread_header.ensures,
      record {
        losses = subst (λ g. AreLosses c.lose.new.self (Loses g ∷ left.events)) same losses;
        frames = (omega arith, up_to_more s.last event.frame.number left.events low were.frames);
        discards = were.discards;
        clock = were.clock;
        kinds = more_lost c.lose_others.new.self.kinds c.add.new.self (told_in left) (event.frame.number ∷ lost_frames left.events) were.kinds
            (subst (λ n. AreFramesOf c.add.new.self (n ∷ lost_frames left.events)) c.number-frame.ensures (c.in_ok-add.ensures (lost_frames left.events) were.kinds.lost));
        behind = subst (λ n. AreBehindOf c.note.new.self (hiding c.unread_header.result n s.hidden)) c.number-frame.ensures (c.in_ok-note.ensures s.hidden were.behind);
        begun = were.begun;
        asked = were.asked;
      },
    ))
    (c.lose.ensures left.events were.losses)
