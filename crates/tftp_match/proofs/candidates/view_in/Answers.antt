use Rattle.tftp_packet.specs.{Request}
use Rattle.tftp_match.proofs.candidates.view_in.Goals as goal

pub returns-in-Err : goal.returns-in-Err
returns-in-Err c request spells = rw c.in-Err.is at (c.read_packet.ensures.only (Request request) spells)
