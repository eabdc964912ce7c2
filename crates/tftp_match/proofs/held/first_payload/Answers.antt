use Rattle.std.proofs.Common.{Ok, Some, [], ap, subst, sym}
use Rattle.std.specs.Io.KnownBytes.{Consumes}
use Rattle.tftp_match.specs.Captures.{IsFirstPayload}
use Rattle.tftp_rows.proofs.FaultLemmas.{same_fault}
use Rattle.tftp_match.proofs.CapturesLemmas.{none_given, one_given, stands_open}
use Rattle.tftp_match.proofs.UnreadLemmas.{not_begun, not_given}
use Rattle.tftp_match.proofs.held.first_payload.Goals as goal

pub returns-then-branch-clause-payload : goal.returns-then-branch-clause-payload
returns-then-branch-clause-payload c =
    let begun = c.in_ok-capture.ensures.ok in
    let on = c.in_ok-next_into.ensures.continues begun.0 [] (stands_open c.in_ok-capture.capture begun.0 c.in_ok-capture.ensures.open begun.2) in
    subst (IsFirstPayload c.args.text.now) (sym c.into_vec.ensures)
    (one_given c.args.text.now begun.0 _ _ c.in_ok-capture.capture c.next_into.new.self c.in_ok-next_into.field-0 c.next_into.new.datagram c.if-branch.true (rw c.new-reader.ensures at begun.1) on c.in_ok-next_into.ensures.standing)

pub returns-clause-payload : goal.returns-clause-payload
returns-clause-payload c =
    let begun = c.in_ok-capture.ensures.ok in
    let on = c.in_ok-next_into.ensures.continues begun.0 [] (stands_open c.in_ok-capture.capture begun.0 c.in_ok-capture.ensures.open begun.2) in
    none_given c.args.text.now begun.0 _ _ c.in_ok-capture.capture c.next_into.new.self c.in_ok-next_into.field-0 c.next_into.new.datagram c.new.result.items c.if-branch.false (rw c.new-reader.ensures at begun.1) on c.in_ok-next_into.ensures.standing
    (c.in_ok-next_into.ensures.end c.in_ok-capture.ensures.open (ap Ok c.if-branch.false)) c.new.ensures.items

pub returns-in_err-capture-clause-why : goal.returns-in_err-capture-clause-why
returns-in_err-capture-clause-why c = same_fault c.from_residual.result _ _ c.from_residual.ensures.1 (not_begun c.args.text.now _ _ (rw c.new-reader.ensures at c.in_err-capture.ensures.err) c.in_err-capture.ensures.end)

pub returns-in_err-next_into-clause-why : goal.returns-in_err-next_into-clause-why
returns-in_err-next_into-clause-why c =
    let begun = c.in_ok-capture.ensures.ok in
    let on = c.in_err-next_into.ensures.continues begun.0 [] (stands_open c.in_ok-capture.capture begun.0 c.in_ok-capture.ensures.open begun.2) in
    same_fault c.from_residual-in_err-next_into.result _ _ c.from_residual-in_err-next_into.ensures.1
    (not_given c.args.text.now begun.0 _ _ c.in_ok-capture.capture c.next_into.new.self _ c.next_into.new.datagram (rw c.new-reader.ensures at begun.1) on c.in_err-next_into.ensures.standing (c.in_err-next_into.ensures.cut c.in_ok-capture.ensures.open))
