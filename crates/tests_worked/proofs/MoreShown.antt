-- A write, and a read with an agreed block size, as the worked captures have them.
use Rattle.std.proofs.Common.{List, [], ◌∷◌, codes, refl, arith, None}
use Rattle.tftp_packet.specs.{Message, Server, OptionValue}
use Rattle.law_model.specs.Model.{request_of, Sent, Took, Req, Data, Ack, History, two_bytes_written, two_bytes_written_view, two_bytes_written_steps, ten_bytes, ten_bytes_view}
use Rattle.law_model.proofs.ModelLemmas.Defaults.{default_blksize}
use Rattle.law_model.proofs.ModelLemmas.Computed.{run_is, complete_is}
use Rattle.law_model.proofs.ModelLemmas.Worked.{blocks_of_eight, two_blocks, written_one_block, written_is_view, written_complete, ten_bytes_is_view, ten_bytes_complete, one_block_plan, written_is_plan}
use Rattle.law_end.specs.{Fits, Shows}
use Rattle.tests_worked.specs.{at_client, at_server, offers_a, is_accepted, gives_hi, hi_is_acknowledged, one_block_write, is_offered_a, accepts_it, gets_hi, has_hi, write_at_server, asks_for_eights, agrees_to_eights, takes_offer, brings_eight, acknowledges_eight, brings_two, acknowledges_two, read_in_eights}
use Rattle.tests_worked.proofs.Spelled.{write_spelled, eights_spelled, agreed_spelled}
use Rattle.law_end.proofs.Whole.NothingAgreed.{nothing_may_be_agreed_by, none_there}
use Rattle.tests_worked.proofs.Payloads.{Spelled}
use Rattle.tests_worked.proofs.Dressed.{dressed_by}
use Rattle.tests_worked.proofs.ReadShown.{ids}
use Rattle.tests_worked.proofs.ReadVariants.{server_ids}
use Rattle.tests_worked.proofs.Shown.{shown_by}
use Rattle.tests_worked.proofs.Options.{eight_may_be_agreed, no_size_of_one}

-- ---- a write

written_fit : Fits None two_bytes_written two_bytes_written.file
written_fit = record {
  may_agree = nothing_may_be_agreed_by None (request_of two_bytes_written);
  reads = refl;
  size = λ mode size e. absurd (none_there (codes "tsize") (OptionValue.Num size) e);
  numbered = omega (arith, written_one_block);
}

abbrev offered : Spelled
offered = (offers_a, Message.Request (request_of two_bytes_written))

pub write_is_shown : Shows at_client two_bytes_written one_block_write
write_is_shown =
    shown_by at_client two_bytes_written two_bytes_written.file two_bytes_written_view one_block_write written_fit (omega (arith, written_one_block)) written_is_view written_complete
    (dressed_by at_client two_bytes_written two_bytes_written.file 512 ids ((hi_is_acknowledged, Message.Ack 1) ∷ (gives_hi, Message.Data 1 (codes "hi")) ∷ (is_accepted, Message.Ack 0) ∷ []) (offered ∷ [])
    two_bytes_written_view one_block_write (default_blksize two_bytes_written refl) refl (write_spelled, tt) refl refl)

-- ---- and at its server

abbrev written_server_view : History
written_server_view = Sent (Ack 1) ∷ Took (Data 1) ∷ Sent (Ack 0) ∷ Took Req ∷ []

pub write_at_server_is_shown : Shows at_server two_bytes_written write_at_server
write_at_server_is_shown =
    shown_by at_server two_bytes_written two_bytes_written.file written_server_view write_at_server written_fit (omega (arith, written_one_block))
    (two_bytes_written_steps, run_is two_bytes_written two_bytes_written.file one_block_plan two_bytes_written_steps written_is_plan refl, refl)
    (complete_is two_bytes_written two_bytes_written.file one_block_plan Server written_server_view written_is_plan refl)
    (dressed_by at_server two_bytes_written two_bytes_written.file 512 server_ids ((has_hi, Message.Ack 1) ∷ (gets_hi, Message.Data 1 (codes "hi")) ∷ (accepts_it, Message.Ack 0) ∷ [])
    ((is_offered_a, Message.Request (request_of two_bytes_written)) ∷ []) written_server_view write_at_server (default_blksize two_bytes_written refl) refl (write_spelled, tt) refl refl)

-- ---- a read in blocks of eight

pub eights_fit : Fits None ten_bytes ten_bytes.file
eights_fit = record {
  may_agree = eight_may_be_agreed None (request_of ten_bytes) refl;
  reads = refl;
  size = λ mode size e. absurd (no_size_of_one size e);
  numbered = omega (arith, two_blocks);
}

abbrev eights : List Spelled
eights = (acknowledges_two, Message.Ack 2) ∷ (brings_two, Message.Data 2 (codes "89")) ∷ (acknowledges_eight, Message.Ack 1) ∷ (brings_eight, Message.Data 1 (codes "01234567")) ∷ (takes_offer, Message.Ack 0) ∷ []

pub eights_are_shown : Shows at_client ten_bytes read_in_eights
eights_are_shown =
    shown_by at_client ten_bytes ten_bytes.file ten_bytes_view read_in_eights eights_fit (omega (arith, two_blocks)) ten_bytes_is_view ten_bytes_complete
    (dressed_by at_client ten_bytes ten_bytes.file 8 ids eights ((agrees_to_eights, Message.Oack ten_bytes.agreed) ∷ (asks_for_eights, Message.Request (request_of ten_bytes)) ∷ []) ten_bytes_view read_in_eights
    blocks_of_eight refl (agreed_spelled, (eights_spelled, tt)) refl refl)
