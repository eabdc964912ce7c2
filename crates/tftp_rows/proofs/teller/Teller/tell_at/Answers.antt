use Rattle.tftp_rows.proofs.TellingLemmas.{none_told}
use Rattle.tftp_rows.proofs.teller.Teller.tell_at.Goals as goal

pub returns-in_default-clause-rows : goal.returns-in_default-clause-rows
returns-in_default-clause-rows g c judged = rw c.in_default.is (none_told g.W.Write.contents c.args.self.now c.args.judged.now)
