pub mod Blocks
pub mod Rows
pub mod Known
pub mod States
pub mod StatesKept
pub mod Rejections
pub mod NamedEnds
pub mod Roles
pub use Rows.{AreLinked, IsLatest, IsLinked, mark_of, peers_of, rows_of}
pub use declared.linked.Linked.{Linked}
pub use Known.{HasNoRequest, HasNumbers, IsNewStray, KnownIds, NotesStrays, StandsFor, among_all, answer_of, answers, datagram_as, first_answer, is_noted, is_other, other_end, peer_as, sides_of}
pub use States.{AreBlocks, HasLengthBySize, IsAllAnswered, IsAllTaken, IsAside, IsBeforeBlocks, IsBlockOrAck, IsHeld, IsNewBlock, IsOfItsAuthor, IsReceiverAfter, IsSenderAfter, Receiver, Says, Sender, has_stopped, replied}
pub use StatesKept.{AreWhole, AreWholeBelow, EndsThere, HasRightLength, IsEnd, IsKnown, IsShortTop, IsSound, IsSoundReceiver, IsSoundSender}
pub use Rejections.{CannotHold, IsFound, NoneBroken}
pub use NamedEnds.{HoldsBlock, HoldsWire, IsEndAfter, IsEndDone, NamedEnd, Receives, Sends, held_of, terms_of}
pub use Roles.{end_of}
pub use declared.ports.PortFault.{PortFault}
pub use declared.ports.Sides.{Sides}
pub use declared.rejection.Rejection.{Rejection}
pub use declared.route.Route.{Route}
pub use declared.blocks.waiting.Span.{Span}
