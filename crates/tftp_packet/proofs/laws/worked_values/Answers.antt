use Rattle.std.proofs.Common.{refl}
use Rattle.tftp_packet.specs.{value_of, is_known_number, is_number, range_of}
use Rattle.tftp_packet.proofs.laws.worked_values.Goals as goal

pub returns-clause-number : goal.returns-clause-number
unfolding value_of is_known_number is_number range_of
returns-clause-number c = refl

pub returns-clause-below : goal.returns-clause-below
unfolding value_of is_known_number is_number range_of
returns-clause-below c = refl

pub returns-clause-unknown : goal.returns-clause-unknown
unfolding value_of is_known_number is_number range_of
returns-clause-unknown c = refl

pub returns-clause-empty : goal.returns-clause-empty
unfolding value_of is_known_number is_number range_of
returns-clause-empty c = refl
