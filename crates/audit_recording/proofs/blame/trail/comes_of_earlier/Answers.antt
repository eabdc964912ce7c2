use Rattle.std.proofs.Common.{◌∷◌, true, false, ap, sym, ◌∙◌}
use Rattle.audit_flows.specs.{Doubts}
use Rattle.audit_recording.proofs.BlameLemmas.Trailing.{comes_by}
use Rattle.audit_recording.proofs.blame.trail.comes_of_earlier.Goals as goal

pub returns-then-agrees_late : goal.returns-then-agrees_late
returns-then-agrees_late c p older is after =
    comes_by c.args.doubts.now.number p older false true c.args.own.now.rests_on_terms
    (sym c.if-own.false ∙ ap (λ (d : Doubts). d.may_be_earlier) is)
    (sym c.if-agrees_late.true ∙ c.agrees_late-agrees_late.ensures (p ∷ older) after)
    (ap (λ (d : Doubts). d.rests_on_terms) is)

pub returns-else-agrees_late : goal.returns-else-agrees_late
returns-else-agrees_late c p older is after =
    c.if-agrees_late.false
    ∙ comes_by c.args.doubts.now.number p older false false c.args.own.now.rests_on_terms
    (sym c.if-own.false ∙ ap (λ (d : Doubts). d.may_be_earlier) is)
    (sym c.if-agrees_late.false ∙ c.agrees_late-agrees_late.ensures (p ∷ older) after)
    (ap (λ (d : Doubts). d.rests_on_terms) is)
