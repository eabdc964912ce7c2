use Rattle.std.proofs.Common.{ap, ◌∙◌}
use Rattle.tftp_rows.specs.Listing.{list_lines}
use Rattle.tftp_rows.proofs.PrintingLemmas.{prints_err, prints_no_part, prints_short}
use Rattle.tftp_rows.proofs.printing.RowPrinter.print_listed.Goals as goal

pub returns-in_err-lines-clause-prints : goal.returns-in_err-lines-clause-prints
returns-in_err-lines-clause-prints g c = prints_err g.W.Write.contents list_lines _ _ c.from_residual.result _ c.from_residual.ensures.0 (prints_no_part g.W.Write.contents list_lines c.args.self.now _)

pub returns-in_err-put-clause-prints : goal.returns-in_err-put-clause-prints
returns-in_err-put-clause-prints g c =
    prints_err g.W.Write.contents list_lines _ _ c.from_residual-in_err-put.result _ c.from_residual-in_err-put.ensures.0
    (prints_short g.W.Write.contents list_lines c.args.self.now c.put.new.self c.args.row.now c.as_slice.result.now (c.as_slice.ensures.value ∙ c.in_ok-lines.ensures) (ap (λ s. s.form) c.in_err-put.ensures.rest)
    (ap (λ s. s.is_headed) c.in_err-put.ensures.rest) c.in_err-put.ensures.lines)
