use Rattle.std.proofs.Common.{◌≡◌, List, Err, rules, sym, subst, ap, ◌∙◌}
use Rattle.tftp_packet.specs.{Message, Spells, End, Client, Server}
use Rattle.law_model.specs.Model.Roles.{receiver_of}
use Rattle.law_tap.specs.{PeerId, side_of}
use Rattle.judge_tap.specs.{BeginsAtTap, IsNoRequest, IsRecorded, passing_of}
use Rattle.judge_tap.proofs.StateFound.{begun_found, begun_with, client_passes, client_to, first_passes, server_found}
use Rattle.judge_tap.proofs.keeping.begun.Goals as goal

pub returns-then-eq-clause-finds : goal.returns-then-eq-clause-finds
returns-then-eq-clause-finds g c = λ s earlier apart lawful none follows source passing.
    let server : c.args.from ≡ Server = search rules in
    server_found s earlier (passing_of c.args.datagram) passing apart none (subst (λ (e : End). c.args.datagram.source ≡ side_of s e) server source)

pub returns-in_err-asked-clause-finds : goal.returns-in_err-asked-clause-finds
returns-in_err-asked-clause-finds g c = λ s earlier apart lawful none follows source passing.
    let d = passing_of c.args.datagram in
    let client : c.args.from ≡ Client = search rules in
    let same : Err c.in_err-asked.field-0.0 ≡ c.from_residual.result = search rules in
    let bad = subst (λ (l : List _). IsNoRequest l c.in_err-asked.field-0.0) c.as_slice.ensures c.in_err-asked.ensures.breaks in
    subst (BeginsAtTap s earlier d) same (begun_found s apart earlier d passing none (subst (λ (e : End). c.args.datagram.source ≡ side_of s e) client source) lawful c.in_err-asked.field-0.0 bad)

pub returns-clause-finds : goal.returns-clause-finds
returns-clause-finds g c = λ s earlier apart lawful none follows source passing.
    let d = passing_of c.args.datagram in
    let client : c.args.from ≡ Client = search rules in
    let at = subst (λ (e : End). c.args.datagram.source ≡ side_of s e) client source in
    let asked = c.in_ok-asked.asked in
    let says = subst (λ (l : List _). Spells l (Message.Request asked)) c.as_slice.ensures c.in_ok-asked.ensures.found.0 in
    let notes = c.in_ok-asked.ensures.found.1 s d apart at (sym c.as_slice.ensures) in
    let end : c.receiver_of_file.result ≡ receiver_of asked.side = c.receiver_of_file.ensures ∙ ap receiver_of c.side.ensures in
    let recorded = subst (λ (e : End). IsRecorded s e d c.recorded-recorded.result) end (c.recorded-recorded.ensures.recorded s apart source) in
    let passes = first_passes s apart earlier d passing none at asked says lawful in
    let service = c.port_of-service.ensures ∙ ap (λ (p : PeerId). p.port) (client_to s apart earlier d passing none at) in
    begun_with s earlier d c.begin.result (client_passes s apart earlier d passing none at asked says) (c.begin.ensures.ok s d apart service follows at says notes recorded passes) (c.begin.ensures.err s d service follows recorded passes)
