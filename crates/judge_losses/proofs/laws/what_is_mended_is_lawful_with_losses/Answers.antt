use Rattle.judge_losses.proofs.Filled.{lossy_lawful}
use Rattle.judge_losses.proofs.laws.what_is_mended_is_lawful_with_losses.Goals as goal

pub returns : goal.returns
returns c = lossy_lawful
