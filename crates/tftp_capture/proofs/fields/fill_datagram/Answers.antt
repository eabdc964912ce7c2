use Rattle.std.proofs.Common.{◌≡◌, ◌∷◌, [], ℕ, List, sym, ◌∙◌}
use Rattle.tftp_capture.specs.{pieces, dir_word, AreFields}
use Rattle.tftp_capture.proofs.Payloads.{ok_whole}
use Rattle.tftp_capture.proofs.Pieces.{bad_fields, cut_none, cut_some, too_many, whole_fields}
use Rattle.tftp_capture.proofs.fields.fill_datagram.Goals as goal
use Rattle.tftp_capture.proofs.fields.fill_datagram.Goals.{else-is_err-via-then-is_err+else-is_some, else-is_err-via-else-is_err}

pub returns-then-is_some : goal.returns-then-is_some
returns-then-is_some c = λ line count is.
    let f = c.in-Some.fields in
    let word = dir_word c.args.dir in
    let more : (a b : List ℕ) × (pieces f.digits.now ≡ a ∷ pieces b) = cut_some (λ p. p.0.now) (λ p. p.1.now) f.digits.now c.cut.result c.cut.ensures (sym c.if-is_some.true ∙ c.is_some.ensures) in
    bad_fields c.args.version count line c.args.dir (pieces c.args.text.now) is
    (too_many c.args.version (word ∷ pieces c.args.text.now) word f.local.now f.host.now f.remote.now more.0 more.1 (pieces f.digits.now) (c.in-Some.ensures word) more.2 word)

pub returns : goal.returns
returns c = λ line count is.
    let f = c.in-Some.fields in
    let word = dir_word c.args.dir in
    let one : pieces f.digits.now ≡ f.digits.now ∷ [] =
    elim c.else-is_err.branch [
      | else-is_err-via-then-is_err+else-is_some w ↦ cut_none (λ p. p.0.now) (λ p. p.1.now) f.digits.now w.cut.result w.cut.ensures (sym w.if-is_some.false ∙ w.is_some.ensures)
      | else-is_err-via-else-is_err w ↦ ok_whole f.digits.now c.fill_with-ended.result c.fill_with-ended.ensures.whole (sym c.is_err.ensures.value ∙ w.if-is_err.false)
    ] in
    let cut : AreFields c.args.version (pieces line) word f.local.now f.host.now f.remote.now f.digits.now =
    rw is (whole_fields c.args.version (word ∷ pieces c.args.text.now) word f.local.now f.host.now f.remote.now f.digits.now (c.in-Some.ensures word) one) in
    c.fill_with-ended.ensures.ends c.args.version line count cut
