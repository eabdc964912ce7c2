use Rattle.judge_tap.proofs.TapShown.{shown_at_end, shown_between}
use Rattle.judge_tap.proofs.laws.what_is_shown_is_shown_there.Goals as goal

pub returns : goal.returns
returns c = λ s tapped asked apart passes first m wire. (shown_at_end s apart tapped asked first m wire, shown_between s apart tapped asked first passes m wire)
