use Rattle.std.proofs.Common.{◌≡◌, None, true, false, length, sym, ap, ◌∙◌, subst, Err}
use Rattle.judge_tap.specs.{Incomplete}
use Rattle.law_tap.specs.{AreApart}
use Rattle.audit_recording.specs.Between.{are_apart, between_capture, is_to_itself, sides_of, IsBetweenAfterBy, IsBetweenFoundBy, IsGoingOnBy, IsWaiting, View, given_to}
use Rattle.audit_recording.proofs.BetweenLemmas.Holding.{as_many, found_there, given_by, given_held, is_going_on, is_waiting, one_side, waiting_sides}
use Rattle.audit_recording.proofs.between.between_view.BetweenView.finish.Goals as goal

pub returns-in-Some-clause-by_rollover : goal.returns-in-Some-clause-by_rollover
returns-in-Some-clause-by_rollover g c rollover whole =
    let v : View = record { transfer = c.self.inside.transfer; rollover = c.self.inside.rollover; ends = c.self.inside.ends; held = c.self.inside.held.items; judge = c.self.inside.judge } in
    subst (λ (v : View). IsBetweenAfterBy rollover v whole → AreApart (sides_of v.transfer whole) → IsBetweenFoundBy rollover (sides_of v.transfer whole) (between_capture v.transfer whole) c.finish.result) c.self.view_is
    (λ after apart.
    let goes : IsGoingOnBy rollover c.in-Some.judge v whole = is_going_on rollover v c.in-Some.judge whole c.in-Some.is after in
    found_there rollover c.in-Some.judge v.transfer whole c.finish.result goes.sides (c.finish.ensures.judged (between_capture v.transfer whole) goes.passed) apart)

pub returns-in-Some-clause-judged : goal.returns-in-Some-clause-judged
returns-in-Some-clause-judged g c = returns-in-Some-clause-by_rollover g c None

pub returns-in-None-clause-by_rollover : goal.returns-in-None-clause-by_rollover
returns-in-None-clause-by_rollover g c rollover whole =
    let v : View = record { transfer = c.self.inside.transfer; rollover = c.self.inside.rollover; ends = c.self.inside.ends; held = c.self.inside.held.items; judge = c.self.inside.judge } in
    subst (λ (v : View). IsBetweenAfterBy rollover v whole → AreApart (sides_of v.transfer whole) → IsBetweenFoundBy rollover (sides_of v.transfer whole) (between_capture v.transfer whole) c.finish-in-None.result) c.self.view_is
    (λ after apart.
    let waits : IsWaiting rollover v whole = is_waiting rollover v whole c.in-None.is after in
    found_there rollover c.judge_of.result v.transfer whole c.finish-in-None.result (waiting_sides rollover v c.judge_of.result whole (c.judge_of.ensures.sides ∙ c.sides_of.ensures whole waits.ends) waits)
    (c.finish-in-None.ensures.judged (between_capture v.transfer whole) (c.judge_of.ensures.passed (between_capture v.transfer whole) waits.held)) apart)

pub returns-in-None-clause-judged : goal.returns-in-None-clause-judged
returns-in-None-clause-judged g c = returns-in-None-clause-by_rollover g c None

pub returns-in-Some-clause-to_itself : goal.returns-in-Some-clause-to_itself
returns-in-Some-clause-to_itself g c rollover whole =
    let v : View = record { transfer = c.self.inside.transfer; rollover = c.self.inside.rollover; ends = c.self.inside.ends; held = c.self.inside.held.items; judge = c.self.inside.judge } in
    subst (λ (v : View). IsBetweenAfterBy rollover v whole → is_to_itself v.transfer whole ≡ true → c.finish.result ≡ Err (Incomplete (given_to v))) c.self.view_is
    (λ after itself.
    let goes : IsGoingOnBy rollover c.in-Some.judge v whole = is_going_on rollover v c.in-Some.judge whole c.in-Some.is after in
    c.finish.ensures.to_itself (one_side rollover c.in-Some.judge v whole goes.sides itself) ∙ ap (λ n. Err (Incomplete n)) (sym (given_by v c.in-Some.judge c.in-Some.is)))

pub returns-in-Some-clause-all : goal.returns-in-Some-clause-all
returns-in-Some-clause-all g c rollover whole =
    let v : View = record { transfer = c.self.inside.transfer; rollover = c.self.inside.rollover; ends = c.self.inside.ends; held = c.self.inside.held.items; judge = c.self.inside.judge } in
    subst (λ (v : View). IsBetweenAfterBy rollover v whole → is_to_itself v.transfer whole ≡ true → given_to v ≡ length (between_capture v.transfer whole)) c.self.view_is
    (λ after itself.
    let goes : IsGoingOnBy rollover c.in-Some.judge v whole = is_going_on rollover v c.in-Some.judge whole c.in-Some.is after in
    given_by v c.in-Some.judge c.in-Some.is ∙ c.finish.ensures.all (between_capture v.transfer whole) goes.passed (one_side rollover c.in-Some.judge v whole goes.sides itself))

pub returns-in-None-clause-to_itself : goal.returns-in-None-clause-to_itself
returns-in-None-clause-to_itself g c rollover whole =
    let v : View = record { transfer = c.self.inside.transfer; rollover = c.self.inside.rollover; ends = c.self.inside.ends; held = c.self.inside.held.items; judge = c.self.inside.judge } in
    subst (λ (v : View). IsBetweenAfterBy rollover v whole → is_to_itself v.transfer whole ≡ true → c.finish-in-None.result ≡ Err (Incomplete (given_to v))) c.self.view_is
    (λ after itself.
    let waits : IsWaiting rollover v whole = is_waiting rollover v whole c.in-None.is after in
    let one : are_apart c.judge_of.result.sides ≡ false = one_side rollover c.judge_of.result v whole (waiting_sides rollover v c.judge_of.result whole (c.judge_of.ensures.sides ∙ c.sides_of.ensures whole waits.ends) waits) itself in
    let counted = c.finish-in-None.ensures.all (between_capture v.transfer whole) (c.judge_of.ensures.passed (between_capture v.transfer whole) waits.held) one in
    c.finish-in-None.ensures.to_itself one ∙ ap (λ n. Err (Incomplete n)) (counted ∙ sym (given_held v c.in-None.is ∙ as_many rollover v whole waits)))

pub returns-in-None-clause-all : goal.returns-in-None-clause-all
returns-in-None-clause-all g c rollover whole =
    let v : View = record { transfer = c.self.inside.transfer; rollover = c.self.inside.rollover; ends = c.self.inside.ends; held = c.self.inside.held.items; judge = c.self.inside.judge } in
    subst (λ (v : View). IsBetweenAfterBy rollover v whole → is_to_itself v.transfer whole ≡ true → given_to v ≡ length (between_capture v.transfer whole)) c.self.view_is
    (λ after itself. given_held v c.in-None.is ∙ as_many rollover v whole (is_waiting rollover v whole c.in-None.is after))
