use Rattle.std.proofs.Common.{[]}
use Rattle.audit_recording.proofs.SessionLemmas.Finding.{none_is_fault, ok_so, same_fault}
use Rattle.audit_recording.proofs.session.text.TextAt.find.Goals as goal

pub returns-clause-found : goal.returns-clause-found
returns-clause-found c named history carried s is =
    ok_so c.of.result _ _ (c.of.ensures.found named [] history carried s is) (λ found there. (c.in_ok-key.key, c.in_ok-key.ensures.key named history carried s is, there))

pub returns-clause-whole : goal.returns-clause-whole
returns-clause-whole c named history carried s is = c.of.ensures.whole named [] history carried s is

pub returns-clause-why : goal.returns-clause-why
returns-clause-why c named history carried s is wanted =
    c.of.ensures.why named [] history carried s is (c.in_ok-key.ensures.key named history carried s is) c.in_ok-key.ensures.there wanted

pub returns-in_err-key-clause-why : goal.returns-in_err-key-clause-why
returns-in_err-key-clause-why c named history carried s is wanted =
    same_fault c.from_residual.result _ _ c.from_residual.ensures.1
    (none_is_fault c.args.session.now named [] history carried s is c.args.number c.args.end c.args.file.now _ (c.in_err-key.ensures.none named history carried s is))
