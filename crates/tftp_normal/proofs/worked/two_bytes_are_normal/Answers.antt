use Rattle.tftp_normal.proofs.Computed.{two_bytes_row, two_bytes_text_is}
use Rattle.tftp_normal.proofs.worked.two_bytes_are_normal.Goals as goal

pub returns-clause-datagrams : goal.returns-clause-datagrams
returns-clause-datagrams c = two_bytes_row

pub returns-clause-text : goal.returns-clause-text
returns-clause-text c = two_bytes_text_is
