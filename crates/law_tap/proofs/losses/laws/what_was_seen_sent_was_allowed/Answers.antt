use Rattle.law_tap.proofs.Left.{was_allowed}
use Rattle.law_tap.proofs.losses.laws.what_was_seen_sent_was_allowed.Goals as goal

pub returns : goal.returns
returns c = was_allowed
