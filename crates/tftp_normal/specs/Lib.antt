pub mod Normal
pub mod Accepted
pub mod Normalised
pub mod Worked
pub mod WireLeft
pub mod Transfer
pub mod Writing
pub use Normal.{author, blocks_after, client_deed, deed_of_client, message_by, normal_count, normal_datagram, normal_datagram_by, normal_datagrams, normal_datagrams_by, normal_header, normal_packets, normal_remote, normal_text, normal_text_by, number_by, opening, opening_count, opening_on, window_count, windows_after, windows_of}
pub use Accepted.{IsAccepted, IsAcceptedBy, IsShownBy, IsShownOver}
pub use Normalised.{Normalises, WritesNormal}
pub use Worked.{came_as, line_end_cut, line_end_cut_datagrams, past_the_round, past_the_round_by_one, past_the_round_by_zero, six_blocks_datagrams, six_blocks_text, ten_bytes_written, ten_bytes_written_datagrams, two_bytes_datagrams, two_bytes_text}
pub use WireLeft.{bytes_of}
pub use Transfer.{meaning_in}
pub use Writing.{HasPut, Puts, asked_by, datagrams_of, dir_from, lines_of, sent_by}
pub use declared.fault.NormalFault.{NormalFault}
