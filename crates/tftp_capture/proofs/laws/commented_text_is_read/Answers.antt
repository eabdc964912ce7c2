use Rattle.tftp_capture.proofs.Commented.{commented_is_read, unnumbered-in, without_comments}
use Rattle.tftp_capture.proofs.laws.commented_text_is_read.Goals as goal

pub returns-clause-read : goal.returns-clause-read
returns-clause-read c = commented_is_read

pub returns-clause-datagrams : goal.returns-clause-datagrams
returns-clause-datagrams c = λ entries n. unnumbered-in n entries

pub returns-clause-plain : goal.returns-clause-plain
returns-clause-plain c = without_comments
