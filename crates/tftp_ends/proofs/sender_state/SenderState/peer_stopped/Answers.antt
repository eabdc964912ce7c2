use Rattle.std.proofs.Common.{sym, subst}
use Rattle.tftp_ends.specs.{IsSenderAfter}
use Rattle.tftp_ends.proofs.AfterSender.{came_error}
use Rattle.tftp_ends.proofs.sender_state.SenderState.peer_stopped.Goals as goal

pub returns-clause-after : goal.returns-clause-after
returns-clause-after g c = λ passed d code text after says. came_error _ passed d code text (subst (λ s. IsSenderAfter s passed) (sym c.self.view_is) after) says
