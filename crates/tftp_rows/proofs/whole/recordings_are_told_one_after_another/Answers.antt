use Rattle.std.proofs.Common.{◌++◌, ◌∙◌, ap, max, subst}
use Rattle.tftp_rows.specs.Printing.{PrintsAll, verdict_lines}
use Rattle.tftp_rows.specs.Whole.{worst_of}
use Rattle.tftp_rows.proofs.PrintingLemmas.{prints_both}
use Rattle.tftp_rows.proofs.whole.recordings_are_told_one_after_another.Goals as goal

pub returns-clause-printed : goal.returns-clause-printed
returns-clause-printed g c begun between next now file other judging named notes more first same second =
    let rows = second.told.first ++ second.told.last in
    prints_both g.W.Write.contents verdict_lines begun.printer between.printer now.printer (first.told.first ++ first.told.last) rows first.told.prints
    (subst (λ p. PrintsAll g.W.Write.contents verdict_lines p now.printer rows) same second.told.prints)

pub returns-clause-status : goal.returns-clause-status
returns-clause-status g c begun between next now file other judging named notes more first same second =
    second.told.status ∙ ap (λ n. max n (worst_of second.tellings)) (same ∙ first.told.status)
