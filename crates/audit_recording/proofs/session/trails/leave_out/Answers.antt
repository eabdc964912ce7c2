use Rattle.std.proofs.Common.{◌≡◌, ◌∷◌, ◌∙◌, List, OnOk, ap, sym, subst, max, unwrap_or}
use Rattle.audit_flows.specs.declared.lines.place.Place.TheVariants.{Nowhere}
use Rattle.audit_flows.specs.{Place}
use Rattle.audit_recording.specs.Reasons.Clock.{last_of}
use Rattle.audit_recording.specs.Session.Beside.{AreMarksKept, Mark}
use Rattle.audit_recording.specs.Session.Beside.Mark.{Strays}
use Rattle.audit_recording.specs.Session.Recording.{straying}
use Rattle.audit_recording.specs.declared.session.unplaced.Moment.{Moment}
use Rattle.audit_recording.proofs.ReasonsLemmas.Unplaced.{on_ok}
use Rattle.audit_recording.proofs.SessionLemmas.Beside.{strays_kept}
use Rattle.audit_recording.proofs.SessionLemmas.Recording.{reached_is}
use Rattle.audit_recording.proofs.session.trails.leave_out.Goals as goal

pub returns-clause-trails : goal.returns-clause-trails
returns-clause-trails c judging named out carried kept =
    c.leave_out_at-2.ensures.trails judging named out carried (c.leave_out_at.ensures.trails judging named out carried kept)

pub returns-clause-marks : goal.returns-clause-marks
returns-clause-marks c d out times marks passes clock kept =
    let passing = c.args.passing.now in
    let m : Moment = record { frame = passing.frame; time = c.time_of.result } in
    let time = c.time_of.ensures times clock ∙ ap (λ o. unwrap_or o (last_of times)) passes.time in
    let moment = c.moment_of-moment.ensures times clock ∙ (λ i. max (unwrap_or (passes.time i) (last_of times)) (reached_is c.args.clock.now times clock i)) in
    let here : Strays passing.source passing.target passing.payload.now m c.moment_of-moment.result ∷ marks ≡ straying Nowhere d times marks =
    λ i. Strays (passes.source i) (passes.target i) (passes.payload i) (record { frame = passes.frame i; time = time i }) (moment i) ∷ marks in
    subst (λ (l : List Mark). OnOk c.note.result (AreMarksKept c.note.new.self c.leave_out_at-2.new.trails out l)) (here ∙ ap (λ (q : Place). straying q d times marks) (sym c.in-Nowhere.is))
    (on_ok c.note.result
    (strays_kept marks passing.source passing.target passing.payload.now m c.moment_of-moment.result c.args.unplaced.now c.note.new.self c.args.trails.now c.leave_out_at.new.trails c.leave_out_at-2.new.trails out
    c.newest.result c.newest-2.result kept (c.newest.ensures kept.history kept.stands) (c.newest-2.ensures kept.history kept.stands) c.leave_out_at.ensures.each c.leave_out_at-2.ensures.each)
    (c.note.ensures kept.history kept.stands))
