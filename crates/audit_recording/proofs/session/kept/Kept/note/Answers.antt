use Rattle.std.proofs.Common.{subst, sym}
use Rattle.tftp_capture.specs.{IsPort}
use Rattle.audit_flows.specs.{Endpoint}
use Rattle.audit_recording.specs.Blame.Frames.{framed_after}
use Rattle.audit_recording.proofs.SessionLemmas.Texts.{about_none_fed}
use Rattle.audit_recording.proofs.session.kept.Kept.note.Goals as goal

pub returns-in-Some-clause-texts : goal.returns-in-Some-clause-texts
returns-in-Some-clause-texts c named d carried fed passes are =
    let port = subst (λ (e : Endpoint). IsPort e.port) (sym fed.to) c.requires.target in
    c.feed.ensures.texts named d carried (λ n. c.in-Some.ensures (framed_after named carried d).placed fed.belongs n) fed passes (c.in_ok-begin.ensures.texts named d carried fed.belongs port are)

pub returns-in-None-clause-texts : goal.returns-in-None-clause-texts
returns-in-None-clause-texts c named d carried fed passes are =
    let port = subst (λ (e : Endpoint). IsPort e.port) (sym fed.to) c.requires.target in
    about_none_fed c.begin.new.self named d carried (c.in_ok-begin.ensures.texts named d carried fed.belongs port are) (λ n. c.in-None.ensures (framed_after named carried d).placed fed.belongs n)
