use Rattle.tftp_normal.proofs.Computed.{six_blocks_row, six_blocks_text_is, six_blocks_count}
use Rattle.tftp_normal.proofs.worked.six_blocks_are_normal.Goals as goal

pub returns-clause-datagrams : goal.returns-clause-datagrams
returns-clause-datagrams c = six_blocks_row

pub returns-clause-text : goal.returns-clause-text
returns-clause-text c = six_blocks_text_is

pub returns-clause-count : goal.returns-clause-count
returns-clause-count c = six_blocks_count
