-- What breaks no rule is shown by some run (law `what_breaks_no_rule_is_seen`): the rules let nothing else pass.
--
-- First a meaning and a wire are made of a capture that breaks no rule: what it settles (Settled), the wire of its blocks
-- (MadeWire), the meaning of its requests and OACKs (MadeMeaning).
--
-- Then each datagram is a deed that its end may do, by the ones before. What is decided by looking (SameOrNot, Searches);
-- the datagram that comes next (NextDatagram): a block (NextBlock), an ACK (NextAck), another (NextOther). EarlierList:
-- the same of each beginning. RulesDivide: so the capture divides, with the view that these deeds are.
pub mod Settled
pub mod MadeWire
pub mod MadeMeaning
pub mod SameOrNot
pub mod Searches
pub mod NextDatagram
pub mod NextBlock
pub mod NextAck
pub mod NextOther
pub mod EarlierList
pub mod RulesDivide
