use Rattle.std.proofs.Common.{◌≡◌, ◌∷◌, None, Some, false, true, refl, sym, ap, ◌∙◌, subst}
use Rattle.law_tap.specs.{TapDatagram}
use Rattle.audit_flows.specs.Lines.{is_of}
use Rattle.audit_recording.specs.Between.{between_capture, HasPassed, IsBetweenAfterBy, IsGoingOnBy, View}
use Rattle.audit_recording.proofs.BetweenLemmas.Feeding.{passed_fed}
use Rattle.audit_recording.proofs.BetweenLemmas.Holding.{goes_on_too, is_going_on, passes_by}
use Rattle.audit_views.specs.Views.{held_of}
use Rattle.audit_views.proofs.ViewsLemmas.Holding.{on_ok}
use Rattle.audit_recording.proofs.between.between_view.BetweenView.feed.Goals as goal

pub returns-then-not-is_at_client-clause-by_rollover : goal.returns-then-not-is_at_client-clause-by_rollover
returns-then-not-is_at_client-clause-by_rollover g c rollover p older after fed =
    let v : View = record { transfer = c.self.inside.transfer; rollover = c.self.inside.rollover; ends = c.self.inside.ends; held = c.self.inside.held.items; judge = c.self.inside.judge } in
    let off : is_of v.transfer.number p ≡ false = ap (λ k. is_of k p) (sym c.self.invariant.0) ∙ sym (c.is_at_client.ensures p fed.belongs) ∙ c.if-not-is_at_client.true in
    subst (λ (v : View). IsBetweenAfterBy rollover v (p ∷ older)) c.self.view_is
    (passes_by rollover v p older off (subst (λ (v : View). IsBetweenAfterBy rollover v older) (sym c.self.view_is) after))

pub returns-then-not-is_at_client-clause-after : goal.returns-then-not-is_at_client-clause-after
returns-then-not-is_at_client-clause-after g c = returns-then-not-is_at_client-clause-by_rollover g c None

pub returns-in-Some-clause-by_rollover : goal.returns-in-Some-clause-by_rollover
returns-in-Some-clause-by_rollover g c rollover p older after fed =
    let v : View = record { transfer = c.self.inside.transfer; rollover = c.self.inside.rollover; ends = c.self.inside.ends; held = c.self.inside.held.items; judge = c.self.inside.judge } in
    let w : View = record { transfer = c.self.inside.transfer; rollover = c.self.inside.rollover; ends = c.self.inside.ends; held = c.self.inside.held.items; judge = Some c.put.new.self } in
    let of_it : is_of v.transfer.number p ≡ true = ap (λ k. is_of k p) (sym c.self.invariant.0) ∙ sym (c.is_at_client.ensures p fed.belongs) ∙ c.if-not-is_at_client.false in
    let goes : IsGoingOnBy rollover c.in-Some.judge v older = is_going_on rollover v c.in-Some.judge older c.in-Some.is (subst (λ (v : View). IsBetweenAfterBy rollover v older) (sym c.self.view_is) after) in
    on_ok c.put.result
    (λ passed. goes_on_too rollover c.in-Some.judge c.put.new.self v w p older refl refl c.put.ensures.sides of_it goes
    (subst (λ (t : TapDatagram). HasPassed c.put.new.self (t ∷ between_capture v.transfer older)) (sym (passed_fed p (held_of c.args.fed.now) fed)) passed))
    (c.put.ensures.passed (between_capture v.transfer older) goes.passed)

pub returns-in-Some-clause-after : goal.returns-in-Some-clause-after
returns-in-Some-clause-after g c = returns-in-Some-clause-by_rollover g c None
