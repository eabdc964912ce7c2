use Rattle.std.proofs.lemmas.Result.{err_from_is_err_and}
use Rattle.tftp_packet.specs.{meaning}
use Rattle.law_end.specs.{Agrees, Begins}
use Rattle.tftp_judge.proofs.MessageFound.{finds_rejected}
use Rattle.tftp_judge.proofs.Replied.{begun_lawful, begun_refused}
use Rattle.tftp_judge.proofs.exchange.Exchange.pass.Goals as goal

pub returns-in_err-pass-in-Begun-clause-finds : goal.returns-in_err-pass-in-Begun-clause-finds
returns-in_err-pass-in-Begun-clause-finds g c = λ h asked passed answered kept.
    let begun = rw (c.in-Begun.is) at kept in
    finds_rejected _ _ c.in_err-pass-in-Begun.field-0.0 c.from_residual.result (err_from_is_err_and c.from_residual.result c.from_residual.ensures.1)
    (begun_refused h asked passed Begins c.in-Begun.end begun (meaning c.args.packet.now) c.in_err-pass-in-Begun.field-0.0 (c.in_err-pass-in-Begun.ensures.found passed begun.after))

pub returns-in_ok-pass-in-Begun-clause-finds : goal.returns-in_ok-pass-in-Begun-clause-finds
returns-in_ok-pass-in-Begun-clause-finds g c = λ h asked passed answered kept.
    let begun = rw (c.in-Begun.is) at kept in
    (begun_lawful h asked passed Begins c.in-Begun.end begun (meaning c.args.packet.now) (c.in_ok-pass-in-Begun.ensures.found passed begun.after), tt)

pub returns-in_err-pass-in-Agreed-clause-finds : goal.returns-in_err-pass-in-Agreed-clause-finds
returns-in_err-pass-in-Agreed-clause-finds g c = λ h asked passed answered kept.
    let begun = rw (c.in-Agreed.is) at kept in
    finds_rejected _ _ c.in_err-pass-in-Agreed.field-0.0 c.from_residual-in_err-pass-in-Agreed.result (err_from_is_err_and c.from_residual-in_err-pass-in-Agreed.result c.from_residual-in_err-pass-in-Agreed.ensures.1)
    (begun_refused h asked passed (Agrees c.in-Agreed.field-0) c.in-Agreed.end begun (meaning c.args.packet.now) c.in_err-pass-in-Agreed.field-0.0 (c.in_err-pass-in-Agreed.ensures.found passed begun.after))

pub returns-in_ok-pass-in-Agreed-clause-finds : goal.returns-in_ok-pass-in-Agreed-clause-finds
returns-in_ok-pass-in-Agreed-clause-finds g c = λ h asked passed answered kept.
    let begun = rw (c.in-Agreed.is) at kept in
    (begun_lawful h asked passed (Agrees c.in-Agreed.field-0) c.in-Agreed.end begun (meaning c.args.packet.now) (c.in_ok-pass-in-Agreed.ensures.found passed begun.after), tt)
