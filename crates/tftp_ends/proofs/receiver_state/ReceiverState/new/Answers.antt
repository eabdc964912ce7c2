use Rattle.std.proofs.Common.{refl}
use Rattle.tftp_ends.proofs.AfterReceiver.{fresh}
use Rattle.tftp_ends.proofs.SoundStates.{fresh_receiver}
use Rattle.tftp_ends.proofs.receiver_state.ReceiverState.new.Goals as goal

pub invariant_of-result : goal.invariant_of-result
invariant_of-result g c = (fresh_receiver _ c.requires.blksize c.requires.windowsize c.requires.receives c.requires.empty refl refl, c.requires.block_size, c.requires.window)

pub returns-clause-before : goal.returns-clause-before
returns-clause-before g c = λ passed before stopped. fresh _ passed before stopped c.requires.empty refl refl refl
