use Rattle.std.proofs.Common.{ap}
use Rattle.tftp_capture.specs.{text_of}
use Rattle.tftp_normal.specs.{normal_header}
use Rattle.tftp_normal.proofs.FirstRound.{as_it_is}
use Rattle.tftp_normal.proofs.laws.the_first_round_is_written_as_it_is.Goals as goal

pub returns-clause-datagrams : goal.returns-clause-datagrams
returns-clause-datagrams c = as_it_is

pub returns-clause-text : goal.returns-clause-text
returns-clause-text c = λ r m can. ap (text_of normal_header) (as_it_is r m can)
