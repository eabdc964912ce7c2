use Rattle.std.proofs.Common.{◌≡◌, ◌∷◌, None, Some, false, true, refl, sym, ap, ◌∙◌, subst, Option}
use Rattle.audit_flows.specs.Transfers.{is_about, is_settled}
use Rattle.audit_flows.specs.{Transfer}
use Rattle.audit_views.specs.Views.{IsGoingOnBy, IsViewAfterBy, Server, View, ViewedWith}
use Rattle.audit_views.proofs.ViewsLemmas.Holding.{goes_on_too, on_ok, view_passes}
use Rattle.audit_views.proofs.views.server_view.ServerView.feed.Goals as goal

pub returns-then-not-is_about-clause-by_rollover : goal.returns-then-not-is_about-clause-by_rollover
returns-then-not-is_about-clause-by_rollover g c rollover name p older after fed =
    let v : View = record { transfer = c.self.inside.transfer; rollover = c.self.inside.rollover; ends = c.self.inside.ends; held = c.self.inside.held.items; judge = c.self.inside.judge } in
    let number = c.self.invariant.0 in
    let off : is_about v.transfer.number p ≡ false = ap (λ k. is_about k p) (sym number) ∙ sym (c.is_about.ensures p fed.belongs) ∙ c.if-not-is_about.true in
    subst (λ (v : View). IsViewAfterBy rollover v name (p ∷ older)) c.self.view_is
    (view_passes rollover v name p older off (subst (λ (v : View). IsViewAfterBy rollover v name older) (sym c.self.view_is) after))

pub returns-then-not-is_about-clause-after : goal.returns-then-not-is_about-clause-after
returns-then-not-is_about-clause-after g c = returns-then-not-is_about-clause-by_rollover g c None

pub returns-in-Some-clause-by_rollover : goal.returns-in-Some-clause-by_rollover
returns-in-Some-clause-by_rollover g c rollover name p older after fed =
    let v : View = record { transfer = c.self.inside.transfer; rollover = c.self.inside.rollover; ends = c.self.inside.ends; held = c.self.inside.held.items; judge = c.self.inside.judge } in
    let w : View = record { transfer = c.self.inside.transfer; rollover = c.self.inside.rollover; ends = c.self.inside.ends; held = c.self.inside.held.items; judge = Some c.feed.new.self } in
    let goes : IsGoingOnBy rollover c.in-Some.judge v name older = subst (λ (o : Option Server). ViewedWith rollover o v name older) c.in-Some.is (subst (λ (v : View). IsViewAfterBy rollover v name older) (sym c.self.view_is) after) in
    let settled : is_settled c.in-Some.judge.transfer.number older ≡ true = ap (λ (x : Transfer). is_settled x.number older) goes.transfer ∙ goes.settled in
    on_ok c.feed.result (λ next. goes_on_too rollover c.in-Some.judge c.feed.new.self v w name p older refl refl c.feed.ensures.transfer goes next)
    (c.feed.ensures.goes_on rollover name p older goes.after settled fed)

pub returns-in-Some-clause-after : goal.returns-in-Some-clause-after
returns-in-Some-clause-after g c = returns-in-Some-clause-by_rollover g c None
