pub mod Ports
pub mod PortNames
pub mod Authors
pub mod Rules
pub mod EndNames
pub mod Joined
pub use Rattle.law_model.specs.Rules.Ports.{PortBroken, Route, SaysUnknownId, asks, begins_error, begins_request, comes_in, first_of, goes_out, has_come_from, is_from_client, is_of_transfer, or_this, port_of_server, route_after, route_at_client, route_at_server, route_before, route_of, route_out, route_to_service, transfer_of}
pub use Rattle.law_model.specs.Rules.PortNames.{port_name, port_number}
pub use Rattle.law_model.specs.Rules.Authors.{author_of}
pub use Rattle.law_model.specs.Rules.Rules.{AckBreaks, AckZeroWaits, BlockBreaks, BlockPassed, BlocksWait, EndBroken, FirstEndBroken, HasPassed, HasWrongLength, IsAcked, IsAckedAt, IsAnswered, IsFront, IsGreatest, IsHigh, IsLast, IsNotLengthOf, IsReachedAt, IsReceiver, IsSender, IsTop, LastIsUnknown, Passed, brings_error, end_number, end_rules, rule_count, usable}
pub use Rattle.law_model.specs.Rules.EndNames.{end_name}
pub use Rattle.law_model.specs.Rules.Joined.{IsJoined}
