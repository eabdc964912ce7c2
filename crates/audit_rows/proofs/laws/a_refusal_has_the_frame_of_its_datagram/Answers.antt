use Rattle.std.proofs.Common.{ap, sym, ◌∙◌}
use Rattle.audit_recording.specs.declared.blame.blame.Blamed.{Blamed}
use Rattle.audit_rows.proofs.Named.{framed_by, named_by}
use Rattle.audit_rows.proofs.laws.a_refusal_has_the_frame_of_its_datagram.Goals as goal

pub returns-clause-frame : goal.returns-clause-frame
returns-clause-frame c at x named carried v frame view is =
    let it = framed_by at x named carried v frame view is in
    (it.is.number, it.is.datagram, it.is.refuses, it.is.seen, ap (λ (b : Blamed). b.frame) (sym it.is.is) ∙ it.frame)

pub returns-clause-source : goal.returns-clause-source
returns-clause-source c at x named carried v b view is =
    let it = named_by at x named carried v b view is in
    (it.number, it.datagram, it.refuses, it.seen, ap (λ (d : Blamed). d.source) it.is)
