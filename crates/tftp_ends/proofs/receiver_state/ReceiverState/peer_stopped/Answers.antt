use Rattle.std.proofs.Common.{sym, subst}
use Rattle.tftp_ends.specs.{IsReceiverAfter}
use Rattle.tftp_ends.proofs.AfterReceiver.{came_error}
use Rattle.tftp_ends.proofs.receiver_state.ReceiverState.peer_stopped.Goals as goal

pub returns-clause-after : goal.returns-clause-after
returns-clause-after g c = λ passed d code text after says. came_error _ passed d code text (subst (λ r. IsReceiverAfter r passed) (sym c.self.view_is) after) says
