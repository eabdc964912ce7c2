use Rattle.std.proofs.Common.{◌≢◌, [], ◌∷◌, refl, sym}
use Rattle.std.proofs.lemmas.Bool.{false≢true}
use Rattle.std.specs.FinMap as map
use Rattle.tftp_packet.specs.{Message, canonical, Client, Server}
use Rattle.tftp_normal.specs.{asked_by, sent_by}
use Rattle.tftp_normal.proofs.Putting.{puts_err, puts_after, puts_same, puts_stop}
use Rattle.tftp_normal.proofs.OpeningPut.{read_answered, write_plain, write_answered, request_failed, answer_failed}
use Rattle.tftp_normal.proofs.writing.put_opening.Goals as goal

pub returns-in_err-put_request : goal.returns-in_err-put_request
returns-in_err-put_request g c =
    puts_stop g.W.Write.contents c.args.writer.now c.put_request.new.writer c.from_residual.result c.args.capture.now c.put_request.new.capture _ c.from_residual.ensures.0
    (request_failed c.args.transfer.now c.args.request.now c.args.oack.now c.requires.request c.requires.oack g.W.Write.contents _ _ c.in_err-put_request.ensures)

pub returns-in_err-put_from-in-Get-false : goal.returns-in_err-put_from-in-Get-false
returns-in_err-put_from-in-Get-false g c =
    let some : map.len c.args.transfer.now.agreed ≢ 0 = λ none. false≢true (c.in-Get-false.ensures'.1 none) in
    let asked = c.in_ok-put_request.ensures in
    let stop = c.in_err-put_from-in-Get-false.ensures in
    puts_err g.W.Write.contents c.args.writer.now c.put_from.new.writer c.from_residual-in_err-put_from-in-Get-false.result c.args.capture.now c.put_from.new.capture _
    c.from_residual-in_err-put_from-in-Get-false.ensures.0 asked.0 stop.failed
    (answer_failed c.args.transfer.now c.args.request.now c.args.oack.now c.requires.request c.requires.oack g.W.Write.contents c.args.writer.now c.put_request.new.writer c.put_from.new.writer c.args.capture.now c.put_request.new.capture c.in-Get-false.ensures some asked.2 (stop.part asked.1))

pub returns-in_ok-put_from-in-Get-false : goal.returns-in_ok-put_from-in-Get-false
returns-in_ok-put_from-in-Get-false g c =
    let some : map.len c.args.transfer.now.agreed ≢ 0 = λ none. false≢true (c.in-Get-false.ensures'.1 none) in
    let are = read_answered c.args.transfer.now c.args.request.now c.args.oack.now c.requires.request c.requires.oack c.in-Get-false.ensures some in
    puts_same g.W.Write.contents c.args.writer.now c.put_ack.new.writer c.put_ack.result c.args.capture.now c.put_ack.new.capture _ _ (sym are)
    (puts_after g.W.Write.contents c.args.writer.now c.put_request.new.writer c.put_ack.new.writer c.put_ack.result c.args.capture.now c.put_request.new.capture c.put_ack.new.capture
    (asked_by c.args.request.now ∷ []) (sent_by Server c.args.oack.now ∷ sent_by Client (canonical (Message.Ack 0)) ∷ []) c.in_ok-put_request.ensures
    (puts_after g.W.Write.contents c.put_request.new.writer c.put_from.new.writer c.put_ack.new.writer c.put_ack.result c.put_request.new.capture c.put_from.new.capture c.put_ack.new.capture
    (sent_by Server c.args.oack.now ∷ []) (sent_by Client (canonical (Message.Ack 0)) ∷ []) c.in_ok-put_from-in-Get-false.ensures c.put_ack.ensures))

pub returns-in-Put-true : goal.returns-in-Put-true
returns-in-Put-true g c =
    let are = write_plain c.args.transfer.now c.args.request.now c.args.oack.now c.requires.request c.requires.oack c.in-Put-true.ensures (c.in-Put-true.ensures'.0 refl) in
    puts_same g.W.Write.contents c.args.writer.now c.put_ack-in-Put-true.new.writer c.put_ack-in-Put-true.result c.args.capture.now c.put_ack-in-Put-true.new.capture _ _ (sym are)
    (puts_after g.W.Write.contents c.args.writer.now c.put_request.new.writer c.put_ack-in-Put-true.new.writer c.put_ack-in-Put-true.result c.args.capture.now c.put_request.new.capture c.put_ack-in-Put-true.new.capture
    (asked_by c.args.request.now ∷ []) (sent_by Server (canonical (Message.Ack 0)) ∷ []) c.in_ok-put_request.ensures c.put_ack-in-Put-true.ensures)

pub returns-in-Put-false : goal.returns-in-Put-false
returns-in-Put-false g c =
    let some : map.len c.args.transfer.now.agreed ≢ 0 = λ none. false≢true (c.in-Put-false.ensures'.1 none) in
    let are = write_answered c.args.transfer.now c.args.request.now c.args.oack.now c.requires.request c.requires.oack c.in-Put-false.ensures some in
    puts_same g.W.Write.contents c.args.writer.now c.put_from-in-Put-false.new.writer c.put_from-in-Put-false.result c.args.capture.now c.put_from-in-Put-false.new.capture _ _ (sym are)
    (puts_after g.W.Write.contents c.args.writer.now c.put_request.new.writer c.put_from-in-Put-false.new.writer c.put_from-in-Put-false.result c.args.capture.now c.put_request.new.capture c.put_from-in-Put-false.new.capture
    (asked_by c.args.request.now ∷ []) (sent_by Server c.args.oack.now ∷ []) c.in_ok-put_request.ensures c.put_from-in-Put-false.ensures)
