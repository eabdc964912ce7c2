use Rattle.tftp_match.specs.Given.{bytes_of}
use Rattle.tftp_match.proofs.choosing.judge.Goals as goal

pub returns-clause-judged : goal.returns-clause-judged
returns-clause-judged g c = record {
  client = bytes_of c.in-Ok.text;
  server = bytes_of c.in-Ok-text.text;
  client_is = c.in-Ok.ensures.text;
  server_is = c.in-Ok-text.ensures.text;
  said = rw c.as_slice.ensures at (rw c.as_slice-2.ensures at c.said_of.ensures);
}
