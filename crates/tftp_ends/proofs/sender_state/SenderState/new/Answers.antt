use Rattle.std.proofs.Common.{refl}
use Rattle.tftp_ends.proofs.AfterSender.{fresh}
use Rattle.tftp_ends.proofs.SoundStates.{fresh_sender}
use Rattle.tftp_ends.proofs.sender_state.SenderState.new.Goals as goal

pub invariant_of-result : goal.invariant_of-result
invariant_of-result g c = (fresh_sender _ c.requires.blksize c.requires.windowsize c.requires.sends c.requires.empty refl refl, c.requires.block_size, c.requires.window)

pub returns-clause-before : goal.returns-clause-before
returns-clause-before g c = λ passed before stopped. fresh _ passed before stopped c.requires.empty refl refl refl
