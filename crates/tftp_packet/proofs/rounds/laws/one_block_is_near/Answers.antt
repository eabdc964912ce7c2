use Rattle.tftp_packet.proofs.rounds.laws.one_block_is_near.Goals as goal
use Rattle.tftp_packet.proofs.RoundsLemmas.Positions.{is_near, has_number, read_back}

pub returns-clause-near : goal.returns-clause-near
returns-clause-near c r high n small = is_near r high n small

pub returns-clause-number : goal.returns-clause-number
returns-clause-number c r high n small = has_number r high n small

pub returns-clause-only : goal.returns-clause-only
returns-clause-only c r high k near = read_back r high k near
