use Rattle.std.proofs.Common.{rules, [], ◌∷◌, refl}
use Rattle.tftp_packet.specs.{Message, Spells}
use Rattle.law_tap.specs.{IsHighBetween, block_65536, last_of_round}
use Rattle.law_tap.proofs.TapHighest.{nothing_high, one_more_high}
use Rattle.audit_recording.proofs.between.laws.worked_numbers.Goals as goal

says_last : Spells last_of_round.payload (Message.Data 65535 (7 ∷ []))
says_last = search rules

last_high : IsHighBetween (last_of_round ∷ []) 65535
last_high = one_more_high last_of_round [] (Message.Data 65535 (7 ∷ [])) says_last 0 nothing_high

pub returns-clause-by_zero : goal.returns-clause-by_zero
returns-clause-by_zero c = (block_65536 ∷ last_of_round ∷ [], ((65535, last_high, refl), ((0, nothing_high, refl), tt)), refl)
