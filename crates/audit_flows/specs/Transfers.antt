pub mod Places
pub mod Kept
pub mod Views
pub mod Doubts
pub mod Worked
pub mod Settled
pub use Rattle.audit_flows.specs.Transfers.Places.{and_then, asks, at_client, beside, beside_by, either, is_client, is_nowhere, is_service, last_served, newer, or_talks, place_of, placed, served_at, served_by, served_within, serves}
pub use Rattle.audit_flows.specs.Transfers.Kept.{AreEndsAfter, AreServed, AreServices, AreStrays, Forgets, IsAfter, IsDoubtedAfter, IsRecorded, IsServedKept, IsStrayKept}
pub use Rattle.audit_flows.specs.Transfers.Views.{answered_by, asked_of, client_view, comes, goes_on, goes_to_asked, has_host, has_port, is_about, is_at_server, is_end, is_server, opened_it, server_of, server_view, went_on_with}
pub use Rattle.audit_flows.specs.Transfers.Doubts.{comes_of_earlier, is_answered_apart, is_beside, is_doubted, is_doubtful, is_doubtful_at_client, is_doubtful_at_server, is_doubtful_between, is_doubtful_in_whole, is_it, is_led_astray, some_of, tells_strays}
pub use Rattle.audit_flows.specs.Transfers.Worked.{ack_of, asked_twice, client, data_of, read_of, service}
pub use Rattle.audit_flows.specs.Transfers.Settled.{is_settled}
