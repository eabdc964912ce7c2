use Rattle.std.proofs.Common.{subst}
use Rattle.tftp_packet.specs.{meaning}
use Rattle.judge_tap.specs.{IsReadOf}
use Rattle.judge_tap.proofs.OwnFound.{own_found, fault_found}
use Rattle.judge_tap.proofs.notes.TapNotes.breaks.Goals as goal

pub returns-in-Ok : goal.returns-in-Ok
returns-in-Ok c = λ s passed route d are apart first source read.
    own_found s apart passed c.args.asked.now first route d c.args.end source (meaning c.in-Ok.packet) (subst (IsReadOf d.payload) c.in-Ok.is read) c.message_breaks.result (c.message_breaks.ensures s passed are)

pub returns-in-Err : goal.returns-in-Err
returns-in-Err c = λ s passed route d are apart first source read.
    fault_found s passed c.args.asked.now first route d c.in-Err.fault (subst (IsReadOf d.payload) c.in-Err.is read)
