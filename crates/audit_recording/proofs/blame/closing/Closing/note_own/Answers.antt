use Rattle.std.proofs.Common.{◌∷◌, subst, sym, ◌∙◌}
use Rattle.audit_recording.specs.declared.blame.pace.Pace.{Pace}
use Rattle.audit_recording.specs.Endings.Pace.{IsPaceOf}
use Rattle.audit_recording.proofs.BlameLemmas.Closing.{stops_same}
use Rattle.audit_recording.proofs.ReasonsLemmas.Unplaced.{on_ok}
use Rattle.audit_recording.proofs.blame.closing.Closing.note_own.Goals as goal

pub returns : goal.returns
returns c f view was passes same at ends number =
    on_ok c.note_stop.result
    (λ stops. record {
      stops = stops;
      last = c.note_stop.ensures.last ∙ c.note_word.ensures.last f view was.last passes same at ends number;
      pace = subst (λ (p : Pace). IsPaceOf p c.args.transfer.now (f ∷ view)) (sym c.note_stop.ensures.pace) (c.note_word.ensures.pace f view was.pace was.last passes same at ends number);
    })
    (c.note_stop.ensures.stops f view (stops_same c.args.self.now.stops c.note_word.new.self.stops c.args.transfer.now view c.note_word.ensures.stops was.stops) passes same ends number)
