use Rattle.std.proofs.Common.{◌≡◌, string_bytes, sym, take}
use Rattle.std.proofs.lemmas.Result.{IfOk-weaker}
use Rattle.std.proofs.lemmas.Str.{IsUtf8-from_ascii}
use Rattle.tftp_rows.proofs.VerdictLines.{words_before_end}
use Rattle.tftp_rows.proofs.verdict.without_end.Goals as goal

pub returns : goal.returns
returns c words line plain =
    let before = words_before_end c.args.line.now words line in
    let cut : take c.saturating_sub.result c.args.line.now ≡ words = rw c.saturating_sub.ensures before in
    IfOk-weaker c.from_utf8_lossy.result _ (λ text. string_bytes text ≡ words) (λ text f. rw (sym cut) (f (rw cut (IsUtf8-from_ascii words plain)))) c.from_utf8_lossy.ensures.ok
