-- What the rules compare is what one end's view has: the numbers of blocks and ACKs, the reply, the terms.
--
-- Where a list of datagrams and a view accord, each datagram is a deed and each deed a datagram (Moments, PassedIsDone),
-- the first of a kind in the one is the first in the other (FirstSpelled, FirstReply), the same end sends (WhoSends), what
-- is known before the blocks is what was agreed (KnownTerms), the highest numbers are the same (HighestNumbers), and so
-- are the lengths of the blocks (BlockLengths).
--
-- What comes around an ERROR: after its own an end does nothing else (AfterError), what it had heard by then
-- (HeardAnswer), and what had been answered before (AnsweredBefore).
pub mod Moments
pub mod PassedIsDone
pub mod FirstSpelled
pub mod FirstReply
pub mod WhoSends
pub mod KnownTerms
pub mod HighestNumbers
pub mod BlockLengths
pub mod AfterError
pub mod HeardAnswer
pub mod AnsweredBefore
