use Rattle.law_tap.proofs.WorkedTap.{late_tap, late_server}
use Rattle.law_tap.proofs.worked.late_block_is_lawful_at_a_tap.Goals as goal

pub returns : goal.returns
returns c = record { tap = late_tap; server = late_server }
