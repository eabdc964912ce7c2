use Rattle.std.proofs.Common.{[], ◌∷◌, refl, arith}
use Rattle.tftp_packet.specs.{Message, Spells}
use Rattle.law_tap.specs.{IsHighBetween, last_of_round}
use Rattle.law_tap.proofs.TapHighest.{nothing_high, one_more_high}
use Rattle.law_tap.proofs.numbers.worked.a_block_after_65535_is_65536_between.Goals as goal

-- DATA 65535 of one byte
said : Spells last_of_round.payload (Message.Data 65535 (7 ∷ []))
said = ((omega arith, (omega arith, (omega arith, (omega arith, tt)))), (255, 255, (omega arith, refl), refl))

high : IsHighBetween (last_of_round ∷ []) 65535
high = one_more_high last_of_round [] (Message.Data 65535 (7 ∷ [])) said 0 nothing_high

pub returns-clause-first : goal.returns-clause-first
returns-clause-first c = (0, nothing_high, refl)

pub returns-clause-zero : goal.returns-clause-zero
returns-clause-zero c = (65535, high, refl)

pub returns-clause-one : goal.returns-clause-one
returns-clause-one c = (65535, high, refl)
