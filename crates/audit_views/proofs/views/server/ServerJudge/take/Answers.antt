use Rattle.std.proofs.Common.{◌≡◌, ◌∷◌, true, refl, sym, ap, ◌∙◌, subst}
use Rattle.tftp_packet.specs.Hosts.{Datagram}
use Rattle.audit_flows.specs.Transfers.{is_at_server}
use Rattle.audit_views.specs.Views.{server_capture, server_header, HasJudgedBy, IsServerAfterBy, Server}
use Rattle.audit_views.proofs.ViewsLemmas.Feeding.{server_given}
use Rattle.audit_views.proofs.views.server.ServerJudge.take.Goals as goal

pub returns-clause-after : goal.returns-clause-after
returns-clause-after g c rollover name whole p part after fed =
    let s : Server = record { transfer = c.self.inside.transfer; ends = c.self.inside.ends; end = c.self.inside.judge } in
    let before : IsServerAfterBy rollover s name whole part = subst (λ (s : Server). IsServerAfterBy rollover s name whole part) (sym c.self.view_is) after in
    let seen : is_at_server s.transfer.number whole p ≡ true =
    ap (λ k. is_at_server k whole p) (sym before.number) ∙ sym (c.is_at_server.ensures whole p before.ends fed.belongs fed.from fed.to) ∙ c.if-not-is_at_server.false in
    server_given name p c.args.held fed rollover s c.give.new.self whole part c.way_at_server-dir.result before seen
    (c.way_at_server-dir.ensures whole p before.ends before.number fed.belongs fed.from)
    (subst (λ (d : Datagram). HasJudgedBy rollover c.give.new.self.judge (server_header s.transfer) (d ∷ server_capture name s.transfer whole part)) c.captured.ensures
    (c.give.ensures.judged rollover (server_header s.transfer) (server_capture name s.transfer whole part) refl before.judged))
