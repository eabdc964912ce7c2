-- What is shown can be written: a meaning that some capture shows has a spelling for each of its messages (law
-- `shown_meaning_can_be_written`).
--
-- EachOf: what holds of each datagram of a list. Needed: which messages a transfer needs. Passed: they have passed, so
-- they were spelled. OwnBytes: their bytes. Written: all of them.
pub mod EachOf
pub mod Needed
pub mod Passed
pub mod OwnBytes
pub mod Written
