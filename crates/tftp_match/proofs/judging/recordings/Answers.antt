use Rattle.std.proofs.Common.{◌∙◌, IfNone, IfOk, inl, refl, subst}
use Rattle.tftp_rows.specs.declared.remarks.Remarks.{Remarks}
use Rattle.tftp_match.specs.Captures.Capture.{Recording}
use Rattle.tftp_match.specs.Matching.{IsUntakenOf}
use Rattle.tftp_match.proofs.MatchingLemmas.{on_none, some_at}
use Rattle.tftp_match.proofs.judging.recordings.Goals as goal

pub returns-clause-told : goal.returns-clause-told
returns-clause-told g c =
    let clients = some_at c.in_ok-clients.field-0 c.in-Some.clients _ c.in-Some.is c.in_ok-clients.ensures.asked in
    let servers = some_at c.in_ok-servers.field-0 c.in-Some-2.servers _ c.in-Some-2.is c.in_ok-servers.ensures.asked in
    let one = Recording c.args.client.now in
    let other = Recording c.args.server.now in
    on_none c.both_recorded.result _ _ (λ told. inl (one, other, refl, refl, told))
    (subst (λ (m : Remarks g.row.E.Denot). IfOk c.both_recorded.result (λ found. IfNone found (IsUntakenOf c.args.request.now one other m.program.now (g.E.Write.contents m.errors.0) (g.E.Write.contents c.both_recorded.new.remarks.errors.0)))) (servers.1 ∙ clients.1)
    (c.both_recorded.ensures.untaken (rw c.as_slice-clients.ensures.value clients.0) (rw c.as_slice-servers.ensures.value servers.0)))
