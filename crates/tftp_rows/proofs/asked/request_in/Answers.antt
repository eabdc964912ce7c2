use Rattle.std.proofs.Common.{◌∙◌, sym}
use Rattle.tftp_packet.specs.{Request}
use Rattle.tftp_rows.proofs.AskedLemmas.{written_none, written_some}
use Rattle.tftp_rows.proofs.asked.request_in.Goals as goal

pub returns-in-Ok-clause-some : goal.returns-in-Ok-clause-some
returns-in-Ok-clause-some c = rw c.request_of.ensures (written_some c.args.payload.now c.in-Ok.packet (rw c.in-Ok.is at c.read_packet.ensures.written))

pub returns-in-Ok-clause-none : goal.returns-in-Ok-clause-none
returns-in-Ok-clause-none c none q spells = written_none c.in-Ok.packet q (sym c.request_of.ensures ∙ none) (rw c.in-Ok.is at (c.read_packet.ensures.only (Request q) spells))

pub returns-in-Err-clause-none : goal.returns-in-Err-clause-none
returns-in-Err-clause-none c none q spells = rw c.in-Err.is at (c.read_packet.ensures.only (Request q) spells)
