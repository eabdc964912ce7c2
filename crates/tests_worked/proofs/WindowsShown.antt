-- The worked captures with agreed options are shown.
use Rattle.std.proofs.Common.{[], refl, arith, None}
use Rattle.law_model.specs.Model.{request_of, six_blocks, six_blocks_view, six_blocks_server_view, block_repeated, block_repeated_view, window_repeated, window_repeated_view}
use Rattle.law_model.proofs.ModelLemmas.Worked.{six_size, six_count, six_view, six_complete, six_server_view, six_server_complete, repeated_size, repeated_count, repeated_view, repeated_complete, window_size, window_count, window_view, window_complete}
use Rattle.law_end.specs.{Fits, TransferIds, IsDressed, Shows}
use Rattle.tests_worked.specs.{at_client, client_host, at_service, window_out_of_order, window_at_server, block_sent_again, window_sent_again}
use Rattle.tests_worked.proofs.Dressed.{dressed_by}
use Rattle.tests_worked.proofs.Options.{both_may_be_agreed, eight_may_be_agreed, no_size_of_both, no_size_of_one}
use Rattle.tests_worked.proofs.ReadShown.{ids}
use Rattle.tests_worked.proofs.Shown.{shown_by}
use Rattle.tests_worked.proofs.Exchanges.{six_news, served_news, again_news, window_news}
use Rattle.tests_worked.proofs.Bases.{read_by_four, served_by_four, write_by_eight, write_by_four}

-- ---- a read in a window of four, at its client and at its server

six_fit : Fits None six_blocks six_blocks.file
six_fit = record {
  may_agree = both_may_be_agreed None (request_of six_blocks) refl;
  reads = refl;
  size = λ mode size e. absurd (no_size_of_both size e);
  numbered = omega (arith, six_count);
}

pub six_dressed : IsDressed at_client six_blocks six_blocks.file six_blocks_view window_out_of_order
six_dressed = dressed_by at_client six_blocks six_blocks.file 8 ids six_news read_by_four.es six_blocks_view window_out_of_order six_size refl read_by_four.spelled refl refl

pub six_shown : Shows at_client six_blocks window_out_of_order
six_shown = shown_by at_client six_blocks six_blocks.file six_blocks_view window_out_of_order six_fit (omega (arith, six_count)) six_view six_complete six_dressed

abbrev service_ids : TransferIds
service_ids = record { own = 41000; peer = record { host = client_host; port = 40000 }; asked = [] }

pub six_server_dressed : IsDressed at_service six_blocks six_blocks.file six_blocks_server_view window_at_server
six_server_dressed = dressed_by at_service six_blocks six_blocks.file 8 service_ids served_news served_by_four.es six_blocks_server_view window_at_server six_size refl served_by_four.spelled refl refl

pub six_server_shown : Shows at_service six_blocks window_at_server
six_server_shown = shown_by at_service six_blocks six_blocks.file six_blocks_server_view window_at_server six_fit (omega (arith, six_count)) six_server_view six_server_complete six_server_dressed

-- ---- a write in lock step

repeated_fit : Fits None block_repeated block_repeated.file
repeated_fit = record {
  may_agree = eight_may_be_agreed None (request_of block_repeated) refl;
  reads = refl;
  size = λ mode size e. absurd (no_size_of_one size e);
  numbered = omega (arith, repeated_count);
}

pub repeated_shown : Shows at_client block_repeated block_sent_again
repeated_shown = shown_by at_client block_repeated block_repeated.file block_repeated_view block_sent_again repeated_fit (omega (arith, repeated_count)) repeated_view repeated_complete
    (dressed_by at_client block_repeated block_repeated.file 8 ids again_news write_by_eight.es block_repeated_view block_sent_again repeated_size refl write_by_eight.spelled refl refl)

-- ---- a write in a window of four

window_fit : Fits None window_repeated window_repeated.file
window_fit = record {
  may_agree = both_may_be_agreed None (request_of window_repeated) refl;
  reads = refl;
  size = λ mode size e. absurd (no_size_of_both size e);
  numbered = omega (arith, window_count);
}

pub window_shown : Shows at_client window_repeated window_sent_again
window_shown = shown_by at_client window_repeated window_repeated.file window_repeated_view window_sent_again window_fit (omega (arith, window_count)) window_view window_complete
    (dressed_by at_client window_repeated window_repeated.file 8 ids window_news write_by_four.es window_repeated_view window_sent_again window_size refl write_by_four.spelled refl refl)
