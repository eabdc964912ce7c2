use Rattle.std.proofs.Common.{◌≡◌, ◌++◌, ◌∷◌, [], string_bytes, sym, ◌∙◌}
use Rattle.std.proofs.lemmas.Result.{IfOk-weaker}
use Rattle.tftp_commands.specs.{checked}
use Rattle.tftp_match.specs.Objects.{words_of}
use Rattle.tftp_match.proofs.VerdictLemmas.{checked_lines}
use Rattle.tftp_rows.proofs.VerdictLines.{ascii, words_before_end}
use Rattle.tftp_match.proofs.objects.verdict_in.Goals as goal

pub returns : goal.returns
returns c =
    let it = checked_lines c.args.said.now in
    let line : c.as_slice.result.now ≡ it.words ++ 10 ∷ [] = rw c.as_slice.ensures.value (rw c.in_ok-line.ensures it.line) in
    IfOk-weaker c.without_end.result _ (λ text. string_bytes text ≡ words_of ((checked c.args.said.now).bytes)) (λ text is. is ∙ sym (words_before_end _ it.words it.line)) (c.without_end.ensures it.words line (ascii it.words it.is_plain.each))
