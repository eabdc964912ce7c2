-- The first rule that a datagram breaks is one, and so is the first ERROR of an aborted transfer (laws
-- `first_broken_rule_is_one`, `the_first_error_is_one`).
--
-- FirstBroken: of rules in an order, the first that is broken is one. OneMessage: a payload says one message, so rules of
-- messages speak of one. FirstRequests and FirstAnswered: the first request, and its first answer, are one (Answering:
-- what answers it). Agreed: what an OACK agrees to has no fault, and what has none may be agreed to (laws
-- `agreed_options_have_no_fault`, `options_without_fault_may_be_agreed`). FirstError: the first ERROR of the transfer.
pub mod FirstBroken
pub mod OneMessage
pub mod FirstRequests
pub mod Answering
pub mod FirstAnswered
pub mod Agreed
pub mod FirstError
