use Rattle.std.proofs.Common.{◌≡◌, ◌∷◌, [], true, false, refl, sym, ap, ◌∙◌, subst}
use Rattle.audit_flows.specs.Transfers.{is_at_server}
use Rattle.audit_views.specs.Views.{server_capture, server_header, IsServerAfterBy, Server, held_of}
use Rattle.audit_views.proofs.ViewsLemmas.Feeding.{server_apart, server_given}
use Rattle.audit_views.proofs.ViewsLemmas.Holding.{on_ok}
use Rattle.audit_views.proofs.ViewsLemmas.Settling.{server_goes_on}
use Rattle.audit_views.proofs.views.server.ServerJudge.feed.Goals as goal

pub returns-then-not-is_at_server-clause-after : goal.returns-then-not-is_at_server-clause-after
returns-then-not-is_at_server-clause-after g c rollover name whole p part after fed =
    let s : Server = record { transfer = c.self.inside.transfer; ends = c.self.inside.ends; end = c.self.inside.judge } in
    let before : IsServerAfterBy rollover s name whole part = subst (λ (s : Server). IsServerAfterBy rollover s name whole part) (sym c.self.view_is) after in
    let off : is_at_server s.transfer.number whole p ≡ false =
    ap (λ k. is_at_server k whole p) (sym before.number) ∙ sym (c.is_at_server.ensures whole p before.ends fed.belongs fed.from fed.to) ∙ c.if-not-is_at_server.true in
    subst (λ (s : Server). IsServerAfterBy rollover s name whole (p ∷ part)) c.self.view_is (server_apart rollover s name whole p part off before)

pub returns-then-not-is_at_server-clause-goes_on : goal.returns-then-not-is_at_server-clause-goes_on
returns-then-not-is_at_server-clause-goes_on g c rollover name p older after settled fed =
    returns-then-not-is_at_server-clause-after g c rollover name (p ∷ older) p older (server_goes_on rollover c.args.self.now name (p ∷ []) older older settled after) fed

pub returns-clause-after : goal.returns-clause-after
returns-clause-after g c rollover name whole p part after fed =
    let s : Server = record { transfer = c.self.inside.transfer; ends = c.self.inside.ends; end = c.self.inside.judge } in
    let before : IsServerAfterBy rollover s name whole part = subst (λ (s : Server). IsServerAfterBy rollover s name whole part) (sym c.self.view_is) after in
    let seen : is_at_server s.transfer.number whole p ≡ true =
    ap (λ k. is_at_server k whole p) (sym before.number) ∙ sym (c.is_at_server.ensures whole p before.ends fed.belongs fed.from fed.to) ∙ c.if-not-is_at_server.false in
    on_ok c.put.result
    (server_given name p (held_of c.args.fed.now) fed rollover s c.put.new.self whole part c.way_at_server-dir.result before seen
    (c.way_at_server-dir.ensures whole p before.ends before.number fed.belongs fed.from))
    (c.put.ensures.judged rollover (server_header s.transfer) (server_capture name s.transfer whole part) refl before.judged)

pub returns-clause-goes_on : goal.returns-clause-goes_on
returns-clause-goes_on g c rollover name p older after settled fed =
    returns-clause-after g c rollover name (p ∷ older) p older (server_goes_on rollover c.args.self.now name (p ∷ []) older older settled after) fed
