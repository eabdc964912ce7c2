use Rattle.tftp_normal.proofs.Headline.{shortest_by_numbers}
use Rattle.tftp_normal.proofs.Lengths.{shortest}
use Rattle.tftp_normal.proofs.laws.normal_capture_is_shortest.Goals as goal

pub returns-clause-by_blocks : goal.returns-clause-by_blocks
returns-clause-by_blocks c = shortest

pub returns-clause-by_numbers : goal.returns-clause-by_numbers
returns-clause-by_numbers c = shortest_by_numbers
