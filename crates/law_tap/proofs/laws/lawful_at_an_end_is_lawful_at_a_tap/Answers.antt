use Rattle.law_tap.proofs.AtEnds.{seen_at_tap, shown_at_tap}
use Rattle.law_tap.proofs.laws.lawful_at_an_end_is_lawful_at_a_tap.Goals as goal

pub returns : goal.returns
returns c = record { seen = seen_at_tap; whole = shown_at_tap }
