use Rattle.std.proofs.Common.{◌∙◌, arith}
use Rattle.audit_recording.specs.Session.Strays.{stray_of}
use Rattle.audit_recording.proofs.SessionLemmas.Strays.{many_pairs, new_pair}
use Rattle.audit_recording.proofs.session.begun.Begun.begin.Goals as goal

pub returns-then-len-ge-MOST : goal.returns-then-len-ge-MOST
returns-then-len-ge-MOST c = λ strays are goes none.
    let pairs = c.args.self.now.pairs in
    let as_many = c.len.ensures ∙ pairs.ok.0 in
    many_pairs (stray_of c.args.passing.now) strays goes pairs.items are none (omega (arith, as_many, c.if-len-ge-MOST.true))

pub returns : goal.returns
returns c = λ strays are goes none.
    let pairs = c.args.self.now.pairs in
    let as_many = c.len.ensures ∙ pairs.ok.0 in
    c.in_ok-push.ensures.items ∙ new_pair (stray_of c.args.passing.now) strays goes pairs.items are none (omega (arith, as_many, c.if-len-ge-MOST.false))
