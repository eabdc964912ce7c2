use Rattle.std.proofs.Common.{◌≡◌, ◌+◌, ◌<◌, ◌≤◌, ◌∷◌, Some, arith, inr, refl, sym, ap, ◌∙◌}
use Rattle.audit_recording.specs.Losses.Noted.{Unread, found_late, longest_wait, waiting_at}
use Rattle.audit_recording.specs.Losses.Noted.Event.{Finds, GivesUp}
use Rattle.audit_recording.proofs.LossesLemmas.Changing.{on_ok}
use Rattle.audit_recording.proofs.LossesLemmas.Keeping.{waits_number}
use Rattle.audit_recording.proofs.LossesLemmas.Standing.{is_found_late, is_found_soon, loses_more, no_more, none_was, nothing_lost, same_frame, some_was}
use Rattle.audit_recording.proofs.session.losses.Losses.find.Goals as goal

pub returns-in_default : goal.returns-in_default
returns-in_default c = λ history are.
    let none = none_was (waiting_at c.args.frame history) (sym c.in_default.is ∙ c.end_wait.ensures.was history are) in
    no_more c.end_wait.new.self history (Finds c.args.frame c.args.clock ∷ history) (GivesUp c.args.frame ∷ history) (Finds c.args.frame c.args.clock ∷ history) (λ g was. inr was)
    (nothing_lost (Finds c.args.frame c.args.clock) history (ap (found_late c.args.clock) none)) (λ at r is. is) (λ n. refl)
    (c.end_wait.ensures.stands history are)

pub returns-then-clock-saturating_add : goal.returns-then-clock-saturating_add
returns-then-clock-saturating_add c = λ history are.
    let was = some_was (waiting_at c.args.frame history) c.in-Some.found (c.in-Some.ensures.was history are) in
    let f : Unread = record { frame = c.args.frame; hosts = c.in-Some.found.hosts; time = c.in-Some.found.time } in
    let same : was.0 ≡ f = same_frame was.0 c.args.frame c.in-Some.found (waits_number c.args.frame history was.0 was.1) was.2 was.3 in
    let waited : waiting_at c.args.frame history ≡ Some f = was.1 ∙ (λ i. Some (same i)) in
    let late : f.time + longest_wait < c.args.clock = omega arith in
    on_ok c.put.result
    (λ stands. no_more c.put.new.self (Finds c.args.frame c.args.clock ∷ history) (Finds c.args.frame c.args.clock ∷ history) (GivesUp c.args.frame ∷ history) (Finds c.args.frame c.args.clock ∷ history)
    (λ g is. is) (λ g is. is) (λ at r is. is) (λ n. refl) stands)
    (c.put.ensures history (Finds c.args.frame c.args.clock ∷ history) (GivesUp c.args.frame ∷ history) (c.in-Some.ensures.stands history are)
    (loses_more (Finds c.args.frame c.args.clock) history f (is_found_late (waiting_at c.args.frame history) f c.args.clock waited late) (λ at r is. is)))

pub returns : goal.returns
returns c = λ history are.
    let was = some_was (waiting_at c.args.frame history) c.in-Some.found (c.in-Some.ensures.was history are) in
    let time = was.3 in
    let soon : c.args.clock ≤ was.0.time + longest_wait = omega arith in
    no_more c.end_wait.new.self history (Finds c.args.frame c.args.clock ∷ history) (GivesUp c.args.frame ∷ history) (Finds c.args.frame c.args.clock ∷ history) (λ g was. inr was)
    (nothing_lost (Finds c.args.frame c.args.clock) history (is_found_soon (waiting_at c.args.frame history) was.0 c.args.clock was.1 soon)) (λ at r is. is) (λ n. refl)
    (c.in-Some.ensures.stands history are)
