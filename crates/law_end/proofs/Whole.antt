-- Whole transfers, and the two theorems put together (laws `captures_show_what_is_meant`, `lawful_captures_break_no_rule`,
-- `meaning_is_one`).
--
-- WholeIsMeant: what is whole by the rules is complete in its view, and means what was made of it. EndedIsComplete: where
-- the end is done, the view is complete. OneMeaning: a capture shows one meaning at most. TwoEnds: completeness and
-- soundness, together. NothingAgreed: what nothing was agreed of. Beginnings: a beginning of a lawful capture is lawful.
-- CarriedFile: the file of a wire.
pub mod WholeIsMeant
pub mod EndedIsComplete
pub mod OneMeaning
pub mod TwoEnds
pub mod NothingAgreed
pub mod Beginnings
pub mod CarriedFile
