-- What the commands write of the worked texts.
use Rattle.std.proofs.Common.{◌≡◌, ℕ, ◌+◌, ◌++◌, true, false, List, [], Ok, Err, codes, decimal, inl, inr, refl, sym, ap, ◌∙◌, ◌↔◌, None}
use Rattle.std.proofs.lemmas.Bool.{false≢true}
use Rattle.std.specs.Ordering.{nat_cmp}
use Rattle.std.specs.Cmp.Lexicographic.{slice_cmp}
use Rattle.std.specs.FinMap as map
use Rattle.std.specs.Fmt.{digits}
use Rattle.tftp_packet.specs.{Message, OptionValue, Get}
use Rattle.tftp_capture.specs.{numbered, line, worked_header, worked_text, BadHeader}
use Rattle.tftp_capture.specs.declared.fault.CaptureFault.TheVariants.{Text}
use Rattle.tftp_capture.proofs.Beginnings.{capture_begins}
use Rattle.law_model.specs.Model.{two_bytes}
use Rattle.law_model.proofs.ModelLemmas.Worked.{one_block, two_is_plan}
use Rattle.law_model.specs.{EndRule}
use Rattle.law_end.specs.{Rule}
use Rattle.tftp_judge.specs.{Unlawful, Capture, Refused}
use Rattle.tftp_normal.specs.{normal_count, opening_count, window_count, two_bytes_text}
use Rattle.tftp_normal.proofs.Computed.{two_bytes_text_is}
use Rattle.tftp_commands.specs.{IsChecked, IsCounted, IsExtracted, IsJudged, IsNormalised, AreLines, Ending, IsShown, given}
use Rattle.tests_worked.specs.{overrun_text, unversioned_text, with_success, with_refusal, with_fault}
use Rattle.tests_worked.proofs.Payloads.{data_spells}
use Rattle.tests_worked.proofs.RefusedMore.{asked}
use Rattle.tests_worked.proofs.Spelled.{request_spelled, ack_spelled}
use Rattle.tests_worked.proofs.TextsRead.{read_of, read_said}
use Rattle.tests_worked.proofs.TextVerdicts.{read_accepted, overrun_refused_at, no_version_faulty}

-- ---- what there is to say of each, given whole

pub no_failure : {P : Type 0} → (P → ⊥) → P ↔ (false ≡ true)
no_failure none = (λ p. absurd (none p), λ e. absurd (false≢true e))

read_judged : IsJudged None (given worked_text) (Ok two_bytes)
read_judged = record { is_said = read_accepted; at_end = λ _. refl; failed = no_failure (λ p. p) }

overrun_judged : IsJudged None (given overrun_text) (Err (Refused (Unlawful 2 (Rule.Block EndRule.WindowOverrun))))
overrun_judged = record { is_said = overrun_refused_at; at_end = λ none. absurd none; failed = no_failure (λ p. p) }

unversioned_judged : IsJudged None (given unversioned_text) (Err (Capture (Text 1 BadHeader)))
unversioned_judged = record { is_said = no_version_faulty; at_end = λ _. refl; failed = no_failure (λ p. p) }

-- ---- check

-- the line, by the number of blocks
abbrev line_by : ℕ → List ℕ
line_by blocks = codes "accepted " ++ codes "get" ++ codes " " ++ codes "octet" ++ codes " blocks " ++ decimal blocks ++ codes " bytes " ++ decimal 2 ++ codes "\n"

line_of_read : with_success (line_by 1) ≡ with_success (line (codes "accepted get octet blocks 1 bytes 2"))
unfolding digits
line_of_read = refl

pub read_checked : IsChecked None (given worked_text) (with_success (line (codes "accepted get octet blocks 1 bytes 2")))
read_checked = record { said = Ok two_bytes; judged = read_judged; is = sym (ap (λ n. with_success (line_by n)) one_block ∙ line_of_read) }

pub overrun_checked : IsChecked None (given overrun_text) (with_refusal (line (codes "refused datagram 2 rule 22 WindowOverrun")))
unfolding digits
overrun_checked = record { said = Err (Refused (Unlawful 2 (Rule.Block EndRule.WindowOverrun))); judged = overrun_judged; is = refl }

pub unversioned_checked : IsChecked None (given unversioned_text) (with_fault (line (codes "fault line 1 BadHeader")))
unfolding digits
unversioned_checked = record { said = Err (Capture (Text 1 BadHeader)); judged = unversioned_judged; is = refl }

-- ---- show

lines_are : AreLines None worked_header [] (numbered 4 (read_of 1)) (line (codes "1 out RRQ") ++ line (codes "2 in DATA 1 2") ++ line (codes "3 out ACK 1"))
unfolding digits
lines_are = (
  0,
  refl,
  line (codes "1 out RRQ"),
  line (codes "2 in DATA 1 2") ++ line (codes "3 out ACK 1"),
  (codes "RRQ", inl (Message.Request asked, request_spelled, refl), refl),
  (
    0,
    refl,
    line (codes "2 in DATA 1 2"),
    line (codes "3 out ACK 1"),
    (codes "DATA 1 2", inl (Message.Data 1 (codes "hi"), data_spells 1 (codes "hi") refl, refl), refl),
    (0, refl, line (codes "3 out ACK 1"), [], (codes "ACK 1", inl (Message.Ack 1, ack_spelled, refl), refl), refl, refl),
    refl,
  ),
  refl,
)

pub read_shown : IsShown None (given worked_text) false (with_success (line (codes "1 out RRQ") ++ line (codes "2 in DATA 1 2") ++ line (codes "3 out ACK 1")))
read_shown = record {
  header = worked_header;
  datagrams = numbered 4 (read_of 1);
  ending = Ending.Whole;
  lines = line (codes "1 out RRQ") ++ line (codes "2 in DATA 1 2") ++ line (codes "3 out ACK 1");
  first = inr (capture_begins worked_text worked_header (numbered 4 (read_of 1)) read_said);
  are = lines_are;
  ends = ((worked_header, read_said), refl, refl);
  is = refl;
}

-- ---- extract, normal and count

pub read_extracted : IsExtracted None (given worked_text) (with_success (codes "hi"))
read_extracted = record { said = Ok two_bytes; judged = read_judged; is = refl }

pub read_normalised : IsNormalised None (given worked_text) (with_success two_bytes_text)
read_normalised = record { said = Ok two_bytes; judged = read_judged; is = sym (ap with_success two_bytes_text_is) }

three : normal_count two_bytes ≡ 3
three =
    let agreed = map.len-empty (slice_cmp nat_cmp) OptionValue in
    λ i. opening_count Get (agreed i) + one_block i + window_count (two_is_plan.windowsize i) (one_block i)

abbrev counted_by : ℕ → List ℕ
counted_by n = codes "normal datagrams " ++ decimal n ++ codes "\n"

line_of_count : with_success (counted_by 3) ≡ with_success (line (codes "normal datagrams 3"))
unfolding digits
line_of_count = refl

pub read_counted : IsCounted None (given worked_text) (with_success (line (codes "normal datagrams 3")))
read_counted = record { said = Ok two_bytes; judged = read_judged; is = sym (ap (λ n. with_success (counted_by n)) three ∙ line_of_count) }
