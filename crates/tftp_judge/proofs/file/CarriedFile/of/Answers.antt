use Rattle.law_end.proofs.Whole.CarriedFile.{carried_file-reads}
use Rattle.tftp_judge.proofs.file.CarriedFile.of.Goals as goal

pub returns-clause-file : goal.returns-clause-file
returns-clause-file c = carried_file-reads c.args.mode c.args.wire.items
