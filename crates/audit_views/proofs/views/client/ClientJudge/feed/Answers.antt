use Rattle.std.proofs.Common.{◌≡◌, None, true, refl, sym, ap, ◌∙◌, subst}
use Rattle.audit_flows.specs.Lines.{is_of}
use Rattle.audit_views.specs.Views.{client_capture, client_header, Client, IsClientAfterBy, held_of}
use Rattle.audit_views.proofs.ViewsLemmas.Feeding.{client_given}
use Rattle.audit_views.proofs.ViewsLemmas.Holding.{on_ok}
use Rattle.audit_views.proofs.views.client.ClientJudge.feed.Goals as goal

pub returns-clause-by_rollover : goal.returns-clause-by_rollover
returns-clause-by_rollover g c rollover name p older after fed =
    let k : Client = record { transfer = c.self.inside.transfer; end = c.self.inside.judge } in
    let before : IsClientAfterBy rollover k name older = subst (λ (k : Client). IsClientAfterBy rollover k name older) (sym c.self.view_is) after in
    let own : is_of k.transfer.number p ≡ true =
    ap (λ (k : Client). is_of k.transfer.number p) c.self.view_is ∙ sym (c.is_at_client.ensures p fed.belongs) ∙ c.if-not-is_at_client.false in
    on_ok c.put.result
    (client_given name p (held_of c.args.fed.now) fed rollover k c.put.new.self older c.way_at_client-dir.result own (c.way_at_client-dir.ensures p fed.from))
    (c.put.ensures.judged rollover (client_header k.transfer) (client_capture name k.transfer older) refl before)

pub returns-clause-after : goal.returns-clause-after
returns-clause-after g c = returns-clause-by_rollover g c None
