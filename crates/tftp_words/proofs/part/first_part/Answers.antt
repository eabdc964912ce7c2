use Rattle.std.proofs.Common.{rules}
use Rattle.tftp_words.proofs.PartLemmas.{no_option, no_part}
use Rattle.tftp_words.proofs.part.first_part.Goals as goal

pub returns-in_err-name : goal.returns-in_err-name
returns-in_err-name c = rw c.from_residual.ensures (no_option _ _ (search rules) (search rules) (search rules) c.in_err-name.ensures)

pub returns-in_err-part_of : goal.returns-in_err-part_of
returns-in_err-part_of c = rw c.from_residual-in_err-part_of.ensures
    (no_part _ _ _ _ _ (search rules) (search rules) (search rules) c.in_ok-name.ensures.0 c.in_ok-name.ensures.1 c.in_err-part_of.ensures)
