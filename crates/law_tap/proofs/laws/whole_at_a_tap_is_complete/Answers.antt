use Rattle.law_tap.proofs.Wholes.{blocks_passed, receiver_complete, both_complete}
use Rattle.law_tap.proofs.laws.whole_at_a_tap_is_complete.Goals as goal

pub returns : goal.returns
returns c = record { blocks = blocks_passed; receiver = receiver_complete; both = both_complete }
