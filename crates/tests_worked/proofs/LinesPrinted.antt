-- What the commands write of the worked text in netascii.
use Rattle.std.proofs.Common.{◌≡◌, ℕ, ◌++◌, lit≤, List, ◌∷◌, Ok, codes, decimal, refl, sym, ap, ◌∙◌, subst, None}
use Rattle.std.specs.Fmt.{digits}
use Rattle.hex.specs.Hex.{encode_with}
use Rattle.tftp_capture.specs.{text_of, line}
use Rattle.law_model.specs.Model.{block_count}
use Rattle.law_model.proofs.ModelLemmas.Worked.{blocks_of_eight}
use Rattle.law_end.specs.{CanBeWritten, blocks_of}
use Rattle.law_end.proofs.Written.Written.{can_be_written}
use Rattle.tftp_judge.specs.{IsTextVerdict}
use Rattle.tftp_normal.specs.{normal_header, normal_text, line_end_cut, line_end_cut_datagrams}
use Rattle.tftp_normal.proofs.Computed.{line_end_row}
use Rattle.tftp_normal.proofs.Texts.{is_accepted, judged_text}
use Rattle.tftp_commands.specs.{IsChecked, IsExtracted, IsJudged, IsNormalised, given}
use Rattle.tests_worked.specs.{at_client, read_of_lines, lines_text, with_success}
use Rattle.tests_worked.proofs.LinesShown.{lines_are_shown}
use Rattle.tests_worked.proofs.TextsPrinted.{no_failure}

can : CanBeWritten None line_end_cut
can = can_be_written at_client line_end_cut read_of_lines (lit≤ tt, (lit≤ tt, (lit≤ tt, (lit≤ tt, (lit≤ tt, (lit≤ tt, (lit≤ tt, tt))))))) lines_are_shown

lines_said : text_of normal_header line_end_cut_datagrams ≡ lines_text
unfolding digits encode_with
lines_said = refl

pub lines_normal : normal_text line_end_cut ≡ lines_text
lines_normal = ap (text_of normal_header) line_end_row ∙ lines_said

pub lines_accepted : IsTextVerdict lines_text (Ok line_end_cut)
lines_accepted = subst (λ t. IsTextVerdict t (Ok line_end_cut)) lines_normal (judged_text None (normal_text line_end_cut) line_end_cut (is_accepted None line_end_cut can))

judged : IsJudged None (given lines_text) (Ok line_end_cut)
judged = record { is_said = lines_accepted; at_end = λ _. refl; failed = no_failure (λ p. p) }

-- the line, by the number of blocks
abbrev line_by : ℕ → List ℕ
line_by blocks = codes "accepted " ++ codes "get" ++ codes " " ++ codes "netascii" ++ codes " blocks " ++ decimal blocks ++ codes " bytes " ++ decimal 9 ++ codes "\n"

line_of_lines : with_success (line_by 2) ≡ with_success (line (codes "accepted get netascii blocks 2 bytes 9"))
unfolding digits
line_of_lines = refl

two_blocks : blocks_of line_end_cut ≡ 2
two_blocks = ap (λ b. block_count b (codes "abcdefg" ++ 13 ∷ 10 ∷ codes "h")) blocks_of_eight

pub lines_checked : IsChecked None (given lines_text) (with_success (line (codes "accepted get netascii blocks 2 bytes 9")))
lines_checked = record { said = Ok line_end_cut; judged = judged; is = sym (ap (λ n. with_success (line_by n)) two_blocks ∙ line_of_lines) }

pub lines_extracted : IsExtracted None (given lines_text) (with_success (codes "abcdefg" ++ 10 ∷ codes "h"))
lines_extracted = record { said = Ok line_end_cut; judged = judged; is = refl }

pub lines_normalised : IsNormalised None (given lines_text) (with_success lines_text)
lines_normalised = record { said = Ok line_end_cut; judged = judged; is = sym (ap with_success lines_normal) }
