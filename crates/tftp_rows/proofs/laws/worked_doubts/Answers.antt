use Rattle.std.proofs.Common.{refl}
use Rattle.std.specs.Fmt.{digits}
use Rattle.tftp_rows.specs.Times.{seconds_text}
use Rattle.tftp_rows.proofs.laws.worked_doubts.Goals as goal

pub returns : goal.returns
unfolding digits seconds_text
returns c r p b e t = rw p.file (rw p.number (rw p.place (rw p.frame (rw p.accused (rw p.words (rw p.reasons (rw b.refusal (rw b.beyond (rw e (rw t refl))))))))))
