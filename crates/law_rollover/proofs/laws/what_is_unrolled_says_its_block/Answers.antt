use Rattle.law_rollover.proofs.laws.what_is_unrolled_says_its_block.Goals as goal
use Rattle.law_rollover.proofs.Unrolling.{data_unrolled, ack_unrolled, others_stay, opcode_stays, length_stays}

pub returns-clause-data : goal.returns-clause-data
returns-clause-data c r high n bytes payload spells = data_unrolled r high n bytes payload spells

pub returns-clause-ack : goal.returns-clause-ack
returns-clause-ack c r high n payload spells = ack_unrolled r high n payload spells

pub returns-clause-others : goal.returns-clause-others
returns-clause-others c r high payload none = others_stay r high payload none

pub returns-clause-opcode : goal.returns-clause-opcode
returns-clause-opcode c r high payload = opcode_stays r high payload

pub returns-clause-length : goal.returns-clause-length
returns-clause-length c r high payload = length_stays r high payload
