use Rattle.std.proofs.Common.{ℕ, List, refl, sym, ap, ◌∙◌}
use Rattle.audit_flows.specs.Lines.{Recorded}
use Rattle.audit_recording.specs.declared.blame.stop.Stop.{Stop}
use Rattle.audit_recording.specs.Endings.Told.{sender_at}
use Rattle.audit_recording.proofs.BlameLemmas.Closing.{new_one, sent_same}
use Rattle.audit_recording.proofs.blame.closing.Closing.note_stop.Goals as goal

pub returns-clause-stops : goal.returns-clause-stops
returns-clause-stops c f view stands passes same ends number s =
    let source = passes.source ∙ sym (ap (λ (d : Recorded). d.source) same) in
    let target = passes.target ∙ sym (ap (λ (d : Recorded). d.target) same) in
    let stop : Stop = record { role = c.sender_at.result; frame = c.args.passing.now.frame; code = c.in-Some.code; message = c.in_ok-from_slice.field-0 } in
    let said : ℕ × List ℕ = (c.in-Some.code, c.in-Some.text.now) in
    new_one c.args.self.now.stops c.args.transfer.now f view c.peer-peer.result s (c.peer-peer.ensures f.placed.datagram (sym source) (sym target)) stands c.insert.new.self stop said
    (sym c.contains_key.ensures ∙ c.if-contains_key.false) c.in_ok-insert.ensures.updates.0 (sym (c.in-Some.ensures f passes same ends number))
    (sent_same c.args.transfer.now f stop said (c.sender_at.ensures ∙ ap (sender_at c.args.transfer.now) source) passes.frame refl c.in_ok-from_slice.ensures.items)
