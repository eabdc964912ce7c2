use Rattle.std.proofs.Common.{◌∷◌, refl}
use Rattle.audit_recording.specs.Losses.Noted.{Unread}
use Rattle.audit_recording.specs.Losses.Noted.Event.{Loses}
use Rattle.audit_recording.proofs.LossesLemmas.Changing.{on_ok}
use Rattle.audit_recording.proofs.LossesLemmas.Standing.{loses_more, no_more}
use Rattle.audit_recording.proofs.session.losses.Losses.lose.Goals as goal

pub returns : goal.returns
returns c = λ history are.
    let f : Unread = record { frame = c.args.frame; hosts = c.args.hosts; time = c.args.time } in
    on_ok c.put.result (λ stands. no_more c.put.new.self (Loses f ∷ history) (Loses f ∷ history) history (Loses f ∷ history) (λ g is. is) (λ g is. is) (λ at r is. is) (λ n. refl) stands)
    (c.put.ensures history (Loses f ∷ history) history are (loses_more (Loses f) history f refl (λ at r is. is)))
