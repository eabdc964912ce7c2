use Rattle.std.proofs.Common.{◌≡◌, ◌++◌, ap, sym, ◌∙◌}
use Rattle.tftp_netascii.specs.{canonical_bytes}
use Rattle.tftp_netascii.proofs.CanonicalLemmas.{canonical_bytes-line_feed, canonical_bytes-return, canonical_wire-step, canonical_wire-to_end}
use Rattle.tftp_netascii.proofs.encoder.encode.Goals as goal
use Rattle.tftp_netascii.proofs.encoder.encode.Goals.{then-control-eq-LF, else-control-eq-LF}

pub loop-run-preserved : goal.loop-run-preserved
loop-run-preserved c =
    let spelling : c.if-control-eq-LF.spelling ≡ canonical_bytes c.in-Some.control =
    elim c.if-control-eq-LF.branch [
      | then-control-eq-LF w ↦ w.spelling-is ∙ sym (canonical_bytes-line_feed _ w.if-control-eq-LF.true)
      | else-control-eq-LF w ↦ w.spelling-is ∙ sym (canonical_bytes-return _ w.if-control-eq-LF.false c.in-Some.ensures.control)
    ] in
    rw (c.in_ok-extend_from_slice-2.ensures.items, c.in_ok-extend_from_slice.ensures.items)
    (canonical_wire-step _ _ _ _ _ _ c.in-Some.ensures.parts c.in-Some.ensures.run spelling ∙ c.loop-run.invariant)

pub returns-clause-wire : goal.returns-clause-wire
returns-clause-wire c =
    c.in_ok-extend_from_slice-3.ensures.items
    ∙ ap (λ xs. c.loop-run.wire.items ++ xs) (sym (canonical_wire-to_end _ c.in_default.ensures.none))
    ∙ c.loop-run.invariant
