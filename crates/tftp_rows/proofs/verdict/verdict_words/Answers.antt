use Rattle.std.proofs.Common.{◌≡◌, ◌++◌, ◌∷◌, [], codes, string_bytes, sym}
use Rattle.std.proofs.lemmas.Result.{IfOk-weaker}
use Rattle.tftp_rows.specs.Verdicts.{verdict_line}
use Rattle.tftp_rows.proofs.FoundLines.{found_lines}
use Rattle.tftp_rows.proofs.VerdictLines.{ascii}
use Rattle.tftp_rows.proofs.verdict.verdict_words.Goals as goal

pub returns : goal.returns
returns c =
    let it = found_lines c.args.found.now in
    let line : c.as_slice.result.now ≡ it.words ++ 10 ∷ [] = rw c.as_slice.ensures.value (rw c.in_ok-line.ensures it.line) in
    IfOk-weaker c.without_end.result _ (λ words. string_bytes words ++ codes "\n" ≡ verdict_line c.args.found.now) (λ words is. rw is (sym it.line)) (c.without_end.ensures it.words line (ascii it.words it.is_plain.each))
