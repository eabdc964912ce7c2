use Rattle.std.proofs.Common.{◌≡◌, ◌∷◌, arith, ap, subst, ◌∙◌}
use Rattle.std.specs.Prelude.{max, unwrap_or}
use Rattle.audit_recording.specs.Losses.Noted.{Unread}
use Rattle.audit_recording.specs.Losses.Noted.Event.{Waits}
use Rattle.audit_recording.specs.Losses.Kept.{AreLosses}
use Rattle.audit_recording.specs.Reasons.Clock.{last_of}
use Rattle.audit_recording.specs.Session.Noted.{unread_in}
use Rattle.audit_recording.proofs.LossesLemmas.Changing.{on_ok}
use Rattle.audit_recording.proofs.SessionLemmas.Noting.{up_to_more}
use Rattle.audit_recording.proofs.session.notes.Notes.wait.Goals as goal

pub returns-clause-stands : goal.returns-clause-stands
returns-clause-stands c = λ s are low.
    let event = c.args.event.now in
    let reached = c.args.self.now.clock.reached in
    let time : c.moment_of-time.result ≡ max (unwrap_or event.frame.parts.time (last_of s.times)) reached =
    c.moment_of-time.ensures s.times are.clock ∙ ap (λ t. max (unwrap_or t (last_of s.times)) reached) c.time.ensures in
    let f : Unread = record { frame = c.number.result; hosts = c.hosts.result; time = c.moment_of-time.result } in
    let same : f ≡ unread_in reached event c.hosts.result s.times = λ i. record { frame = c.number.ensures i; hosts = c.hosts.result; time = time i } in
    on_ok c.wait.result
    (λ losses. (
      c.hosts.result,
      c.hosts.ensures,
      record {
        losses = subst (λ g. AreLosses c.wait.new.self (Waits g ∷ s.events)) same losses;
        frames = (omega arith, up_to_more s.last event.frame.number s.events low are.frames);
        discards = are.discards;
        clock = are.clock;
        kinds = are.kinds;
        behind = are.behind;
        begun = are.begun;
        asked = are.asked;
      },
    ))
    (c.wait.ensures s.events are.losses)
