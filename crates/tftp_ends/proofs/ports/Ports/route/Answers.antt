use Rattle.std.proofs.Common.{◌∙◌, sym, ap}
use Rattle.tftp_ends.specs.{answer_of, datagram_as}
use Rattle.tftp_ends.proofs.KeptSteps.{routed_at_client, notes_at_client, routed_at_server, notes_at_server}
use Rattle.tftp_ends.proofs.ports.Ports.route.Goals as goal

pub returns-in-Client : goal.returns-in-Client
returns-in-Client c h earlier payload stands is =
    let d = datagram_as c.args.seen.now payload in
    let view = sym c.self.view_is in
    let asked = ap (λ k. k.asked) view ∙ c.in-Some.is in
    let named = ap (λ k. k.header.named) view ∙ c.in-Client.is in
    c.route_at_client.ensures earlier payload is (notes_at_client h c.args.self.now earlier stands d c.in-Some.first asked named)
    ∙ ap answer_of (routed_at_client h c.args.self.now earlier stands d c.in-Some.first asked named)

pub returns-in-Server : goal.returns-in-Server
returns-in-Server c h earlier payload stands is =
    let d = datagram_as c.args.seen.now payload in
    let view = sym c.self.view_is in
    let asked = ap (λ k. k.asked) view ∙ c.in-Some.is in
    let named = ap (λ k. k.header.named) view ∙ c.in-Server.is in
    c.route_at_server.ensures earlier payload is (notes_at_server h c.args.self.now earlier stands d c.in-Some.first asked named)
    ∙ ap answer_of (routed_at_server h c.args.self.now earlier stands d c.in-Some.first asked named)
