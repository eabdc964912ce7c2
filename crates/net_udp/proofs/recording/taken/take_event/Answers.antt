use Rattle.std.proofs.Common.{◌≡◌, inl, inr, sym, ap, subst}
use Rattle.net_udp.proofs.FragmentsLemmas.Rooms.{on_err}
use Rattle.net_pcap.specs.{FrameState}
use Rattle.net_udp.specs.Recording.{Comes, EventState, IsSentOf, WantsNext}
use Rattle.net_udp.specs.declared.recording.likeness.Likeness.{Likeness}
use Rattle.net_udp.proofs.recording.taken.take_event.Goals as goal

pub returns-in_err-likeness-clause-wants : goal.returns-in_err-likeness-clause-wants
returns-in_err-likeness-clause-wants c =
    let same : c.event.inside.frame ≡ c.args.event.now.frame = ap (λ (e : EventState). e.frame) c.event.view_is in
    on_err c.from_residual.result _ (λ came before stands knows. inl (subst (λ (x : FrameState). WantsNext came c.args.waiting.now x.parts x.number) same (c.in_err-likeness.ensures.wants came stands)))

pub returns-in_err-note-clause-wants : goal.returns-in_err-note-clause-wants
returns-in_err-note-clause-wants c =
    let same : c.event.inside.frame ≡ c.args.event.now.frame = ap (λ (e : EventState). e.frame) c.event.view_is in
    on_err c.from_residual-in_err-note.result _ (λ came before stands knows. inr (
      c.in_ok-likeness.likeness,
      c.outcome.result.now,
      c.sent_of-sent.result,
      subst (λ (x : FrameState). IsSentOf x.parts c.in_ok-likeness.likeness c.outcome.result.now c.sent_of-sent.result) same c.sent_of-sent.ensures,
      c.in_err-note.ensures.wants before knows,
    ))

pub returns-clause-comes : goal.returns-clause-comes
returns-clause-comes c = λ before stands.
    let same : c.event.inside.frame ≡ c.args.event.now.frame = ap (λ (e : EventState). e.frame) c.event.view_is in
    let held = c.in_ok-likeness.ensures.comes before stands in (
      held.0,
      subst (λ (l : Likeness). Comes before c.args.event.now.frame.parts l held.0) (sym c.bring.ensures.likeness) (subst (λ (x : FrameState). Comes before x.parts c.in_ok-likeness.likeness held.0) same held.1),
      held.2,
    )
