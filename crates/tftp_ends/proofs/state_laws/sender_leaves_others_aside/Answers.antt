use Rattle.tftp_ends.proofs.AfterSender.{sender_aside}
use Rattle.tftp_ends.proofs.state_laws.sender_leaves_others_aside.Goals as goal

pub returns : goal.returns
returns c = sender_aside
