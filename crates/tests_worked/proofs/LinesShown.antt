-- The worked reads in netascii are shown.
use Rattle.std.proofs.Common.{◌≡◌, ◌≢◌, ℕ, ◌++◌, true, not, ◌==◌, List, [], ◌∷◌, codes, refl, subst, ap, ◌∙◌, arith, None}
use Rattle.std.proofs.lemmas.Bool.{true≢false, false≢true}
use Rattle.std.proofs.lemmas.List.Elements.{All-from_recursion}
use Rattle.tftp_packet.specs.{Message, Spells, Get, Netascii, Client}
use Rattle.tftp_netascii.specs.{Reads}
use Rattle.tftp_netascii.proofs.CanonicalLemmas.{Reads-canonical}
use Rattle.tftp_netascii.proofs.RunReads.{run_to_end}
use Rattle.law_model.specs.Model.{block_count, request_of, IsView, IsComplete, eight_a_block, ten_bytes_view, ten_bytes_steps}
use Rattle.law_model.proofs.ModelLemmas.Computed.{Plan, IsPlan, run_is, complete_is}
use Rattle.law_model.proofs.ModelLemmas.Worked.{blocks_of_eight, one_at_a_time, something_agreed}
use Rattle.law_end.specs.{IsDressed, Fits, IsWritable, Shows}
use Rattle.tests_worked.specs.{at_client, oack, by_eight, comes, asks_for_lines, read_of_lines, read_of_bare_lines}
use Rattle.tftp_normal.specs.{line_end_cut}
use Rattle.tests_worked.proofs.Payloads.{Spelled, request_for_spells, oack_spells, eight_is, all_from}
use Rattle.tests_worked.proofs.Exchanges.{came, acks}
use Rattle.tests_worked.proofs.Dressed.{dressed_by}
use Rattle.tests_worked.proofs.ReadShown.{ids}
use Rattle.tests_worked.proofs.Shown.{shown_by}
use Rattle.tests_worked.proofs.Options.{eight_may_be_agreed}

-- two blocks of eight in lock step, whatever is in them

abbrev plan : Plan
plan = record { agreed = true; windowsize = 1; blocks = 2 }

module _ (wire : List ℕ) (reads : Reads wire line_end_cut.file) (two : block_count 8 wire ≡ 2) where
  is_plan : IsPlan line_end_cut wire plan
  is_plan = record {
    something = λ _. something_agreed;
    nothing = λ e. absurd (true≢false e);
    windowsize = one_at_a_time;
    blocks = ap (λ b. block_count b wire) blocks_of_eight ∙ two;
  }

  fit : Fits None line_end_cut wire
  fit = record {
    may_agree = eight_may_be_agreed None (request_of line_end_cut) refl;
    reads = reads;
    size = λ mode size e. absurd (cc);
    numbered = omega (arith, ap (λ b. block_count b wire) blocks_of_eight, two);
  }

  writable : IsWritable None line_end_cut
  writable = omega (arith, ap (λ b. block_count b (codes "abcdefg" ++ 13 ∷ 10 ∷ codes "h")) blocks_of_eight)

  run : IsView line_end_cut wire Client ten_bytes_view
  run = (ten_bytes_steps, run_is line_end_cut wire plan ten_bytes_steps is_plan refl, refl)

  complete : IsComplete line_end_cut wire Client ten_bytes_view
  complete = complete_is line_end_cut wire plan Client ten_bytes_view is_plan refl

request_spells : Spells asks_for_lines.payload (Message.Request (request_of line_end_cut))
request_spells = request_for_spells (codes "a") (codes "netascii") Netascii Get by_eight eight_a_block refl refl eight_is

agrees : Spells (oack by_eight) (Message.Oack eight_a_block)
agrees = oack_spells by_eight eight_a_block refl eight_is

abbrev news : List ℕ → List ℕ → List Spelled
news first second = acks 2 ∷ came 2 second ∷ acks 1 ∷ came 1 first ∷ acks 0 ∷ []

abbrev base : List Spelled
base = (comes (oack by_eight), Message.Oack eight_a_block) ∷ (asks_for_lines, Message.Request (request_of line_end_cut)) ∷ []

-- ---- a line end of two bytes

abbrev wire : List ℕ
wire = codes "abcdefg" ++ 13 ∷ 10 ∷ codes "h"

wire_reads : Reads wire line_end_cut.file
wire_reads = Reads-canonical line_end_cut.file

dressed : IsDressed at_client line_end_cut wire ten_bytes_view read_of_lines
dressed = dressed_by at_client line_end_cut wire 8 ids (news (codes "abcdefg" ++ 13 ∷ []) (10 ∷ codes "h")) base ten_bytes_view read_of_lines blocks_of_eight refl (agrees, (request_spells, tt)) refl refl

pub lines_are_shown : Shows at_client line_end_cut read_of_lines
lines_are_shown = shown_by at_client line_end_cut wire ten_bytes_view read_of_lines (fit wire wire_reads refl) (writable wire wire_reads refl) (run wire wire_reads refl) (complete wire wire_reads refl) dressed

-- ---- a line end of one byte, which reads as itself

abbrev bare_wire : List ℕ
bare_wire = codes "abcdefg" ++ 10 ∷ codes "h"

bare_reads : Reads bare_wire line_end_cut.file
bare_reads = run_to_end bare_wire (All-from_recursion (λ x. x ≢ 13) bare_wire (all_from (λ x. not (x == 13)) (λ x. x ≢ 13) (λ x e is. false≢true (subst (λ n. not (n == 13) ≡ true) is e)) bare_wire refl))

bare_dressed : IsDressed at_client line_end_cut bare_wire ten_bytes_view read_of_bare_lines
bare_dressed = dressed_by at_client line_end_cut bare_wire 8 ids (news (codes "abcdefg" ++ 10 ∷ []) (codes "h")) base ten_bytes_view read_of_bare_lines blocks_of_eight refl (agrees, (request_spells, tt)) refl refl

pub bare_lines_are_shown : Shows at_client line_end_cut read_of_bare_lines
bare_lines_are_shown = shown_by at_client line_end_cut bare_wire ten_bytes_view read_of_bare_lines (fit bare_wire bare_reads refl) (writable bare_wire bare_reads refl) (run bare_wire bare_reads refl) (complete bare_wire bare_reads refl) bare_dressed
