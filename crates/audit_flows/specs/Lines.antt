pub mod Recording
pub mod Places
pub mod Kept
pub mod Doubting
pub use Rattle.audit_flows.specs.Lines.Recording.{Recorded, address_cmp, asked_part, asks_alike, begins_error, begins_oack, begins_packet, begins_request, begins_unknown_id, begins_write, bytes_of, endpoint_cmp, goes, has_window, is_ack, is_ack_0, is_block, is_again, is_between, number_of, other_of, passes_in, refuses, same_address, same_endpoint, sends_blocks, version_of}
pub use Rattle.audit_flows.specs.Lines.Places.{Placed, answered_in, answers, asked_after, clock, is_apart, is_at, is_known_host, is_of, is_request, last_was_ack_0, latest_in, line, live, may_answer, newest_of, opened_by, opening, opens, place_asked, place_at, place_talked, reach, silence, talk_in, talked_of, transfer_of}
pub use Rattle.audit_flows.specs.Lines.Kept.{AreLinesOf, AreTimed, IsHistoryOf, IsLineKept, IsLineOf, IsRequestOf, IsTimed, TellsOf, asked_by, comes_to, ends_after, history_of, is_past, is_reached, is_within, kind_of, other_end, place_of_talk, seen_of, spoken_after, spoken_of, surely_after, talk_after, unknown_after, unknown_of, went_on_after, writes_in}
pub use Rattle.audit_flows.specs.Lines.Doubting.{acked_0_in, agrees_late, answer_of, answered_last, answers_surely, before_talk, comes_in, doubts_of, follows_request, follows_strays, follows_unanswered, follows_unknown_id, goes_on_with_first, is_alike_in, is_another, is_apart_from_lines, is_asked_again, is_disordered, is_late, is_later, is_near, is_next_data, is_other_talk, is_refusal, is_sent_by_client, is_stray_at, is_talk, is_the_one, is_unanswered, is_unknown_talk, is_word, leaves_unanswered, may_be_answer_of, may_be_earlier, may_be_tftp, may_follow, rests_on_terms, says_first_word, says_more, says_unknown_id, speaks_first, writes_by}
