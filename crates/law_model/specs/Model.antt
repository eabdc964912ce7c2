pub mod Meanings
pub mod Blocks
pub mod Roles
pub mod Machines
pub mod Runs
pub mod OneSide
pub mod Worked
pub mod WorkedWindows
pub mod WorkedErrors
pub use Rattle.law_model.specs.Model.Meanings.{Meaning, NothingAgreed, SomethingAgreed, blksize_of, number_or, option_or, request_of, windowsize_of}
pub use Rattle.law_model.specs.Model.Blocks.{block, block_count}
pub use Rattle.law_model.specs.Model.Machines.{Ack, Data, Deed, Error, HasSent, HasTaken, History, IsAcknowledged, IsStarted, IsStartedOn, MachinePacket, MayAckZero, MayAckZeroOn, MaySend, MaySendAck, MaySendData, MaySendError, MaySendOack, MaySendReq, NoErrorSent, Oack, Req, Sent, Took, message_of}
pub use Rattle.law_model.specs.Model.Runs.{IsComplete, IsRun, IsView, MayFollow, ReceiverSent, ReceiverTook, SenderSent, SenderTook, Step, view_of}
pub use Rattle.law_model.specs.Model.OneSide.{IsOneSided, LetsAckZeroOn, LetsStartOn, MayCome, MayComeAck, MayComeData, MayComeError, MayComeOack, heard, is_error, takes_error}
pub use Rattle.law_model.specs.Model.Worked.{agreed_late_view, asked_again_view, client, eight_a_block, server, ten_bytes, ten_bytes_steps, ten_bytes_view, two_bytes, two_bytes_server_view, two_bytes_steps, two_bytes_view, two_bytes_written, two_bytes_written_steps, two_bytes_written_view}
pub use Rattle.law_model.specs.Model.WorkedWindows.{block_repeated, block_repeated_steps, block_repeated_view, eight_by_four, gone_back_view, six_blocks, six_blocks_server_view, six_blocks_steps, six_blocks_view, window_repeated, window_repeated_steps, window_repeated_view}
pub use Rattle.law_model.specs.Model.WorkedErrors.{answer_to_late_ack_view, block_after_error_steps, block_after_error_view, disk_full, given_up_view, one_block_view, read_given_up_steps, read_given_up_view, read_refused_server_view, read_refused_steps, read_refused_view, stopped_at_the_end_steps, stopped_at_the_end_view, stopped_short}
