use Rattle.std.proofs.Common.{◌≡◌, ◌<◌, [], ℕ, List, Bor, get_or, length, max, subst}
use Rattle.tftp_transfers.proofs.WidthLemmas.{wide_enough}
use Rattle.tftp_transfers.proofs.checking.form_of.Goals as goal

pub loop-file-preserved : goal.loop-file-preserved
loop-file-preserved c =
    let same = c.deref-file-items.ensures.value in
    let i = c.loop-file.file-index in
    let width = c.loop-file.widest in
    let none : Bor (List ℕ) = record { ref_ptr = (0, 0); now = [] } in
    wide_enough c.args.asked.now.files.items i none width c.max-widest.result (subst (λ l. i < length l) same c.loop-file-test.true) c.loop-file.invariant
    (subst (λ l. c.max-widest.result ≡ max (length (get_or l i none).now) width) same c.max-widest.ensures)
