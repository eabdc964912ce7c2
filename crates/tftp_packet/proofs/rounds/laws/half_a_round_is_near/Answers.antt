use Rattle.tftp_packet.proofs.rounds.laws.half_a_round_is_near.Goals as goal
use Rattle.tftp_packet.proofs.RoundsLemmas.Positions.{around_is_near, low_is_near}

pub returns-clause-around : goal.returns-clause-around
returns-clause-around c r high k old new = around_is_near r high k old new

pub returns-clause-low : goal.returns-clause-low
returns-clause-low c r high k timely low = low_is_near r high k low timely
