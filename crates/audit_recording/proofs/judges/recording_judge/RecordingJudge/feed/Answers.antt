use Rattle.std.proofs.Common.{◌≡◌, List, refl, sym, subst, ap, ◌∙◌, max}
use Rattle.audit_flows.specs.Lines.{doubts_of, Placed, clock}
use Rattle.audit_flows.specs.Transfers.{place_of, placed}
use Rattle.audit_views.specs.Views.{IsFed}
use Rattle.audit_recording.specs.Judges.{RecordingJudge, StandsAfter}
use Rattle.audit_recording.proofs.JudgesLemmas.Keeping.{handed_more, new_before}
use Rattle.audit_recording.proofs.judges.recording_judge.RecordingJudge.feed.Goals as goal

pub returns-clause-doubts : goal.returns-clause-doubts
returns-clause-doubts g c named name out recorded d stands of =
    let old : StandsAfter (record { attribution = c.self.inside.attribution; watched = c.self.inside.watched; failed = c.self.inside.failed; judging = c.self.inside.judging }) named name out recorded =
    subst (λ (j : RecordingJudge). StandsAfter j named name out recorded) (sym c.self.view_is) stands in
    c.in_ok-found.ensures.doubts named (placed named recorded) d old.attribution of

pub returns-clause-stands : goal.returns-clause-stands
returns-clause-stands g c named name out recorded d stands of from to =
    let old : StandsAfter (record { attribution = c.self.inside.attribution; watched = c.self.inside.watched; failed = c.self.inside.failed; judging = c.self.inside.judging }) named name out recorded =
    subst (λ (j : RecordingJudge). StandsAfter j named name out recorded) (sym c.self.view_is) stands in
    let older : List Placed = placed named recorded in
    let p : Placed = record { datagram = d; moment = max d.time (clock older); place = place_of named older (max d.time (clock older)) d } in
    let belongs : c.in_ok-found.found.place ≡ p.place =
    c.in_ok-found.ensures.place named older d old.attribution of ∙ ap (λ t. place_of named older (max t (clock older)) d) (sym of.time) in
    let doubts : c.in_ok-found.found.doubts ≡ doubts_of p older =
    c.in_ok-found.ensures.doubts named older d old.attribution of
    ∙ ap (λ t. doubts_of (record { datagram = d; moment = max t (clock older); place = c.in_ok-found.found.place }) older) (sym of.time)
    ∙ ap (λ q. doubts_of (record { datagram = d; moment = max d.time (clock older); place = q }) older) belongs in
    let fed : IsFed name p (record { place = c.in_ok-found.found.place; source = c.args.source.now; target = c.args.target.now; payload = c.args.payload.now }) =
    record { belongs = belongs; from = of.source; to = of.target; carries = of.payload; from_host = from; to_host = to } in
    record {
      works = refl;
      attribution = c.in_ok-found.ensures.stands named older d old.attribution of;
      transfers = c.in_ok-hand_on.ensures.kept c.self.inside.judging name out p older fed belongs doubts
          (c.in_ok-open.ensures.kept name out p older belongs (λ x. new_before named out recorded (max d.time (clock older)) d x old.handed) old.transfers);
      handed = handed_more out p older old.handed;
    }
