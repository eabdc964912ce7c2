pub mod TapSeen
pub mod TapFinds
pub mod Said
pub mod LossyKept
pub mod ToldKept
pub mod TapKept
pub mod TapStops
pub mod TapVerdict
pub mod WorkedLossy
pub use TapSeen.{AreMarks, AreNotes, AreSeen, ErrorPassed, IsNew, IsNewBlock, IsStop, IsStoppedBy, Notes, Seen, Stopped, first_stop, has_number, stop_of}
pub use TapFinds.{FindsRule, IsOtherError, IsOtherRequest, IsReadOf, MessageBreaks, OwnBreaks}
pub use TapKept.{IsErrorAtTap, IsHeard, IsKeptAtTap, IsReceiving, IsTapJudge, IsTapTransfer, Receiving, TapJudge, TapState, TapTransfer, kept_there}
pub use TapStops.{BeginsAtTap, FindsAtTap, IsCertainByRule, IsNoRequest, IsReadUnless, IsRecorded, IsRecordedFor, ReceiverBreaks, RefusesAtTap, TransferBreaks, passing_as, passing_of, smaller_of, error_by_refusal}
pub use TapVerdict.{IsTapVerdict, NoneShown, said_at_tap, unfinished_by}
pub use Said.{AreSaidNotes, FindsSaid, IsErrorPut, IsErrorSaid, IsNewlySaid, IsOfferSaid, SaidError, SaidErrors, SaidNotes, ack_broken, error_of}
pub use LossyKept.{FindsWithLosses, HasBegun, HasKeptWithLosses, IsKeptWithLosses, IsLossyJudge, IsNotCertain, LossyJudge, LossyState, NoneIsSaid, RefusesWithLosses, TakesMemoryWithLosses}
pub use ToldKept.{AreTold, IsNoted, IsOfferKept, IsStandingAtTap, IsStandingBy, IsTold, IsToldIfBroken, IsToldOf, IsUnfit, SomeOack, Told, figures_after}
pub use WorkedLossy.{long_blocks, lowered_request}
pub use declared.datagram.TapDatagram.{TapDatagram}
pub use declared.lossy_refusal.LossyRefusal.{LossyRefusal}
pub use declared.refusal.TapRefusal.{TapRefusal}
pub use declared.refusal.TapRefusal.TheVariants.{Aborted, Incomplete, NormalTooLong, Unlawful}
pub use declared.seen.Marks.{Marks}
