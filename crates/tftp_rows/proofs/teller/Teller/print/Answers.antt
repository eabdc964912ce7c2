use Rattle.tftp_rows.proofs.TellingLemmas.{printed_with}
use Rattle.tftp_rows.proofs.teller.Teller.print.Goals as goal

pub returns-clause-prints : goal.returns-clause-prints
returns-clause-prints g c =
    printed_with g.W.Write.contents c.args.self.now.dropped c.args.self.now.printer c.print.new.self c.print.result c.args.row c.in_ok-row.row
    (record { reasons = c.in_ok-row.ensures.reasons; accused = c.in_ok-row.ensures.accused; rest = c.in_ok-row.ensures.rest }) c.print.ensures.prints
