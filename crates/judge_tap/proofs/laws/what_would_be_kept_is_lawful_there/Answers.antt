use Rattle.judge_tap.proofs.KeptLawful.{kept_lawful}
use Rattle.judge_tap.proofs.laws.what_would_be_kept_is_lawful_there.Goals as goal

pub returns : goal.returns
returns c = λ s tapped asked apart passes first. kept_lawful s apart tapped passes asked first
