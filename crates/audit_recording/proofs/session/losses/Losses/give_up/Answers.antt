use Rattle.std.proofs.Common.{◌≡◌, ◌∷◌, Some, inr, refl, ◌∙◌}
use Rattle.audit_recording.specs.Losses.Noted.{Unread, waiting_at}
use Rattle.audit_recording.specs.Losses.Noted.Event.{GivesUp}
use Rattle.audit_recording.proofs.LossesLemmas.Changing.{on_ok}
use Rattle.audit_recording.proofs.LossesLemmas.Keeping.{waits_number}
use Rattle.audit_recording.proofs.LossesLemmas.Standing.{loses_more, no_more, none_was, nothing_lost, same_frame, some_was}
use Rattle.audit_recording.proofs.session.losses.Losses.give_up.Goals as goal

pub returns-in-Some : goal.returns-in-Some
returns-in-Some c = λ history are.
    let was = some_was (waiting_at c.args.frame history) c.in-Some.lost (c.in-Some.ensures.was history are) in
    let f : Unread = record { frame = c.args.frame; hosts = c.in-Some.lost.hosts; time = c.in-Some.lost.time } in
    let same : was.0 ≡ f = same_frame was.0 c.args.frame c.in-Some.lost (waits_number c.args.frame history was.0 was.1) was.2 was.3 in
    let waited : waiting_at c.args.frame history ≡ Some f = was.1 ∙ (λ i. Some (same i)) in
    on_ok c.put.result (λ stands. stands)
    (c.put.ensures history (GivesUp c.args.frame ∷ history) (GivesUp c.args.frame ∷ history) (c.in-Some.ensures.stands history are)
    (loses_more (GivesUp c.args.frame) history f waited (λ at r is. is)))

pub returns-in-None : goal.returns-in-None
returns-in-None c = λ history are.
    no_more c.end_wait.new.self history (GivesUp c.args.frame ∷ history) (GivesUp c.args.frame ∷ history) (GivesUp c.args.frame ∷ history) (λ g was. inr was)
    (nothing_lost (GivesUp c.args.frame) history (none_was (waiting_at c.args.frame history) (c.in-None.ensures.was history are))) (λ at r is. is) (λ n. refl)
    (c.in-None.ensures.stands history are)
