use Rattle.law_tap.proofs.WorkedTap.{early_tap, early_client}
use Rattle.law_tap.proofs.worked.early_block_is_lawful_at_a_tap.Goals as goal

pub returns : goal.returns
returns c = record { tap = early_tap; client = early_client }
