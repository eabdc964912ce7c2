use Rattle.tftp_ends.proofs.AfterReceiver.{receiver_aside}
use Rattle.tftp_ends.proofs.state_laws.receiver_leaves_others_aside.Goals as goal

pub returns : goal.returns
returns c = receiver_aside
