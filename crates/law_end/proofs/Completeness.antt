-- What a run shows breaks no rule (law `runs_break_no_rule`): the rules refuse nothing that two ends may do.
--
-- NextDeed: a deed that its end may do next breaks none of the rules of messages. RunsPass: so each datagram of a view
-- passes, whatever it shows. RunsBreakNoRule: strays and answers to strays pass too, and so the whole capture.
pub mod NextDeed
pub mod RunsPass
pub mod RunsBreakNoRule
