use Rattle.std.proofs.Common.{ap, sym, ◌∙◌}
use Rattle.std.proofs.lemmas.Result.{IfOk-weaker}
use Rattle.audit_recording.specs.Endings.Undelivered.{undelivered_of}
use Rattle.tftp_rows.specs.Ended.{IsConclusionOf}
use Rattle.tftp_rows.proofs.conclusion.concluded.Goals as goal

pub returns : goal.returns
returns c judging x named carried h =
    let unreached = c.undelivered-undelivered.ensures ∙ ap undelivered_of c.trail.ensures in
    IfOk-weaker c.of.result _ (λ conclusion. IsConclusionOf conclusion c.args.judged.now c.args.told.now x named carried)
    (λ k told. let it : IsConclusionOf k c.args.judged.now c.args.told.now x named carried = (c.ending-ending.result, c.ending-ending.ensures judging x named carried h, rw (sym unreached) (rw (sym c.stops_early-stops_early.ensures) (rw (sym (c.is_before-is_before.ensures judging x named carried h)) told))) in it)
    c.of.ensures
