use Rattle.std.proofs.Common.{ℕ, Bool, true, false, Result, Ok, Err, refl, sym, ap, ◌∙◌, subst}
use Rattle.std.specs.Io.KnownBytes.{prepend_known}
use Rattle.net_pcap.specs.{FrameState, Memory, PcapFault}
use Rattle.net_udp.specs.Recording.{Continues, EventState, RecordingState}
use Rattle.net_udp.proofs.RecordingLemmas.Continuing.{answers_again, continued, passed_on, refused_for}
use Rattle.net_udp.proofs.recording.reader.RecordingReader.next_into.Goals as goal
use Rattle.net_udp.proofs.recording.reader.RecordingReader.next_into.Goals.{in-Ok, in-Err-take_event}

pub returns-in-Some-clause-continues : goal.returns-in-Some-clause-continues
returns-in-Some-clause-continues g c = λ bytes history stands. answers_again c.args.self.now _ _ bytes history _ stands

pub returns-in-Ok-false-clause-continues : goal.returns-in-Ok-false-clause-continues
returns-in-Ok-false-clause-continues g c = λ bytes history stands.
    passed_on c.args.self.now
    (record { frames = c.self.inside.frames; recent = c.self.inside.recent; waiting = c.self.inside.waiting; senders = c.self.inside.senders; refused = c.self.inside.refused })
    c.next_into.new.self (g.R.Read.remaining c.args.reader.now.0) _ c.next_into.result (Ok false) c.next_into.new.frame _ bytes history c.self.view_is
    c.in_default.is (c.in-Ok-false.is ∙ ap (λ (b : Bool). Ok b) c.in-Ok-false.field-0-test) (λ e. cc) c.next_into.ensures.continues stands

pub returns-in-Err-clause-continues : goal.returns-in-Err-clause-continues
returns-in-Err-clause-continues g c = λ bytes history stands.
    passed_on c.args.self.now
    (record { frames = c.self.inside.frames; recent = c.self.inside.recent; waiting = c.self.inside.waiting; senders = c.self.inside.senders; refused = c.self.inside.refused })
    c.next_into.new.self (g.R.Read.remaining c.args.reader.now.0) _ c.next_into.result (Err c.in-Err.fault) c.next_into.new.frame _ bytes history c.self.view_is
    c.in_default.is c.in-Err.is (λ e. cc) c.next_into.ensures.continues stands

pub returns-clause-continues : goal.returns-clause-continues
returns-clause-continues g c = λ bytes history stands.
    let before = prepend_known c.args.self.now.frames.pieces.ahead (g.R.Read.remaining c.args.reader.now.0) in
    let rest = g.R.Read.remaining c.next_into.new.reader.0 in
    let old : RecordingState = record { frames = c.self.inside.frames; recent = c.self.inside.recent; waiting = c.self.inside.waiting; senders = c.self.inside.senders; refused = c.self.inside.refused } in
    elim c.match-take_event.branch [
      | in-Ok w ↦
          subst (λ (r : Result Bool PcapFault). Continues c.match-take_event.self before (prepend_known c.match-take_event.self.frames.pieces.ahead rest) r c.take_event.new.event bytes history) (sym w.result-is)
          (subst (λ (s : RecordingState). Continues s before (prepend_known s.frames.pieces.ahead rest) (Ok true) c.take_event.new.event bytes history) (sym w.self-is)
          (continued c.args.self.now old
          (record { frames = c.next_into.new.self; recent = c.take_event.new.recent; waiting = c.take_event.new.waiting; senders = c.take_event.new.senders; refused = c.self.inside.refused })
          (g.R.Read.remaining c.args.reader.now.0) _ c.next_into.result c.next_into.new.frame c.take_event.new.event bytes history c.self.view_is
          c.in_default.is c.in_default.is (c.in-Ok-true.is ∙ ap (λ (b : Bool). Ok b) c.in-Ok-true.field-0-test) c.take_event.ensures.frame
          c.next_into.ensures.continues c.next_into.ensures.kept c.next_into.ensures.number w.in-Ok.ensures.comes w.in-Ok.ensures.takes w.in-Ok.ensures.sent w.in-Ok.ensures.discarded w.in-Ok.ensures.knows stands))
      | in-Err-take_event w ↦
          subst (λ (r : Result Bool PcapFault). Continues c.match-take_event.self before (prepend_known c.match-take_event.self.frames.pieces.ahead rest) r c.take_event.new.event bytes history) (sym w.result-is)
          (subst (λ (s : RecordingState). Continues s before (prepend_known s.frames.pieces.ahead rest) (Err (record { kind = Memory; frame = w.number.result })) c.take_event.new.event bytes history) (sym w.self-is)
          (refused_for c.args.self.now old _
          (g.R.Read.remaining c.args.reader.now.0) _ c.next_into.result c.next_into.new.frame c.take_event.new.event _ bytes history c.self.view_is
          c.in_default.is refl (c.in-Ok-true.is ∙ ap (λ (b : Bool). Ok b) c.in-Ok-true.field-0-test)
          (ap (λ (n : ℕ). record { kind = Memory; frame = n }) (w.number.ensures ∙ ap (λ (e : EventState). e.frame.number) c.event-2.view_is ∙ ap (λ (x : FrameState). x.number) c.take_event.ensures.frame))
          c.next_into.ensures.continues c.next_into.ensures.kept c.next_into.ensures.number w.in-Err-take_event.ensures.wants stands))
    ]
