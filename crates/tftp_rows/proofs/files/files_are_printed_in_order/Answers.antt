use Rattle.tftp_rows.proofs.FilesLemmas.{behind_all, in_order}
use Rattle.tftp_rows.proofs.files.files_are_printed_in_order.Goals as goal

pub returns-clause-behind : goal.returns-clause-behind
returns-clause-behind g c unheard opens holds judging named names before after outcomes came = behind_all g.W.Write.contents unheard opens holds judging named names before after outcomes came

pub returns-clause-in_order : goal.returns-clause-in_order
returns-clause-in_order g c unheard opens holds judging named names before after outcomes came none = in_order g.W.Write.contents unheard opens holds judging named names before after outcomes came none
