pub mod Worked
pub mod WorkedWindows
pub mod WorkedRules
pub mod WorkedHosts
pub mod WorkedErrors
pub mod WorkedTexts
pub mod WorkedNetascii
pub mod WorkedStrays
pub mod WorkedOffers
pub use Worked.{accepts_it, acknowledges_eight, acknowledges_hi, acknowledges_two, agrees_to_eights, answers_stray, asks_for_a, asks_for_eights, at_client, at_server, brings_eight, brings_hi, brings_more, brings_two, client_host, comes_astray, gets_hi, gives_hi, has_hi, hi_is_acknowledged, is_accepted, is_asked_for_a, is_offered_a, is_told, offers_a, one_block_read, one_block_write, read_at_server, read_in_eights, read_past_its_end, read_with_a_stray, read_without_its_ack, sends_hi, server_host, takes_offer, write_at_server}
pub use WorkedWindows.{ack, answers, asks, at_service, before_going_back, before_overrun, before_skip, block, block_sent_again, block_seven, block_two, by_eight, by_four, by_two, comes, goes, goes_back, hears, is_asked, oack, request, request_for, window_at_server, window_out_of_order, window_sent_again}
pub use WorkedRules.{ack_zero, acknowledges_nobody, acknowledges_stray, agrees_to_eight, agrees_to_four, asks_for_size, before_ack_zero, before_answering, before_changed_block, before_changed_reply, before_last_number, before_late_oack, before_short_block, before_taking_offer, block_too_early, block_zero, by_most, changed_block, comes_from_elsewhere, comes_to_another_port, last_number, late_oack, only_asked, short_block, sized, too_many_blocks}
pub use WorkedHosts.{acknowledges_third_host, after_third_host, answered_from_third_host, answers_third_host, asks_third_host, comes_from_third_host, only_is_asked, read_from_third_host, read_with_a_third_host, third_host, third_host_asks}
pub use WorkedErrors.{before_late_answer, begun_in_eights, block_after_error, error, gives_up, late_answer, only_offered, read_given_up, read_given_up_twice, read_refused, read_refused_twice, says_forbidden, says_not_found, stopped_after_the_end, stopped_at_the_end, stops, stops_unanswered}
pub use WorkedTexts.{lines_text, overrun_text, unversioned_text, with_fault, with_refusal, with_success}
pub use WorkedNetascii.{asks_for_lines, read_of_bare_lines, read_of_lines, read_of_wire}
pub use WorkedStrays.{after_a_stray_at_server, answers_by_error_4, comes_to_service, read_from_first_port, read_with_a_stray_at_server, server_answers_by_error_4, server_answers_stray, strays_to_server}
pub use WorkedOffers.{acknowledges_too_long, agrees_to_1024, agrees_to_foo, agrees_to_multicast, agrees_to_none, agrees_unasked, asks_for_b, asks_for_mail, by_foo, by_multicast, only_512_asked, only_foo_asked, only_multicast_asked}
