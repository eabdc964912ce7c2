use Rattle.std.proofs.Common.{subst}
use Rattle.tftp_packet.specs.{meaning}
use Rattle.law_tap.specs.{IsSaidBy}
use Rattle.judge_tap.specs.{IsReadOf}
use Rattle.judge_tap.proofs.ToldFound.{asked_is_said, malformed_told, told_by}
use Rattle.judge_tap.proofs.told.Told.standing.Goals as goal

pub returns-in-Ok : goal.returns-in-Ok
returns-in-Ok c = λ s earlier d apart passes are first notes read source goes.
    let says : IsSaidBy s c.args.from (meaning c.in-Ok.packet) d = record { goes = goes; source = source; spells = subst (IsReadOf d.payload) c.in-Ok.is read } in
    let request = asked_is_said s apart earlier c.args.asked.now first in
    told_by s apart earlier passes d c.args.from c.args.asked.now request c.args.self.now are (meaning c.in-Ok.packet) says c.breaks.result (c.breaks.ensures s earlier d apart passes are request notes says)

pub returns-in-Err : goal.returns-in-Err
returns-in-Err c = λ s earlier d apart passes are first notes read source goes.
    malformed_told s apart earlier d goes c.in-Err.field-0 (subst (IsReadOf d.payload) c.in-Err.is read)
