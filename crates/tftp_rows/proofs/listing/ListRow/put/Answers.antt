use Rattle.std.proofs.Common.{string_bytes}
use Rattle.tftp_rows.proofs.LineLemmas.{puts_both, puts_last}
use Rattle.tftp_rows.proofs.listing.ListRow.put.Goals as goal

pub returns : goal.returns
returns c =
    let a = string_bytes c.args.line.now in
    let number = string_bytes c.put_number_cell.new.line in
    let client = string_bytes c.put_endpoint.new.line in
    let server = string_bytes c.put_endpoint-2.new.line in
    let asked = string_bytes c.put_asked.new.line in
    let datagrams = string_bytes c.put_number_cell-2.new.line in
    let frames = string_bytes c.put_frames.new.line in
    let fault = string_bytes c.put_fault.new.line in
    let ends = puts_both a client server _ _ (puts_both a number client _ _ c.in_ok-put_number_cell.ensures c.in_ok-put_endpoint.ensures) c.in_ok-put_endpoint-2.ensures in
    let counted = puts_both a asked datagrams _ _ (puts_both a server asked _ _ ends c.in_ok-put_asked.ensures) c.in_ok-put_number_cell-2.ensures in
    let ended = puts_both a frames fault _ _ (puts_both a datagrams frames _ _ counted c.in_ok-put_frames.ensures) c.in_ok-put_fault.ensures in
    puts_last c.put.result a fault (string_bytes c.put.new.line) _ _ ended c.put.ensures
