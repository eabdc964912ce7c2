use Rattle.std.proofs.Common.{string_bytes}
use Rattle.tftp_rows.proofs.LineLemmas.{puts_both, puts_last}
use Rattle.tftp_rows.proofs.row.VerdictRow.put_verdict.Goals as goal

pub returns : goal.returns
returns c =
    let a = string_bytes c.args.line.now in
    let doubtful = string_bytes c.put_doubtful.new.line in
    let before = string_bytes c.put_before.new.line in
    let verdict = string_bytes c.push_str.new.self in
    let premise = string_bytes c.put_premise.new.line in
    let reasons = string_bytes c.put_reasons.new.line in
    let beyond = string_bytes c.put_beyond.new.line in
    let ended = string_bytes c.put.new.line in
    let so = puts_both a doubtful before _ _ (rw c.as_slice-reasons.ensures.value at c.in_ok-put_doubtful.ensures) c.in_ok-put_before.ensures in
    let said = puts_both a before verdict _ _ so (rw c.as_str.ensures.value at c.in_ok-push_str.ensures.bytes) in
    let rests = puts_both a verdict premise _ _ said c.in_ok-put_premise.ensures in
    let why = puts_both a premise reasons _ _ rests (rw c.as_slice-reasons.ensures.value at c.in_ok-put_reasons.ensures) in
    let goes = puts_both a beyond ended _ _ (puts_both a reasons beyond _ _ why c.in_ok-put_beyond.ensures) c.in_ok-put.ensures in
    puts_last c.put-2.result a ended (string_bytes c.put-2.new.line) _ _ goes c.put-2.ensures
