pub mod CaptureText
pub mod Commented
pub mod Fields
pub mod Heads
pub mod History
pub mod InTwo
pub mod Lines
pub mod SpelledHeads
pub mod Worked
pub mod Written
pub use CaptureText.{AreFields, Begins, BeginsWith, BodyFault, ByteFault, Due, FailsAt, HasFault, HasFields, HasPorts, IsCapture, IsLawful, IsOver, IsPort, LineFault, NamesNoHost, Numbered, Reading, Reads, Says, SaysDatagram, SaysDatagrams, SpellsPayload, SpellsPort, Stands, Unfinished, datagram_line, dir_word, end_line, end_word, head_line, line_with_host, longest, longest_line, numbered, payload_text, pieces, said, says_nothing, service_line, text_of, text_with_hosts, total_line, whole_lines}
pub use Commented.{Entry, IsEntry, comment_line, commented_text, entry_line, numbered_in, said_in}
pub use Fields.{BeginWithFields, BodyEnds, DatagramEnds, PayloadEnds, TotalEnds, datagram_of, filled, filled_if, header_of}
pub use Heads.{BeginsWithDatagram, BeginsWithHead, GoesOnAfter, HeadState, IsDecoded, IsHead, MayName, SpellsBehind, head_text}
pub use History.{Answers, Continues, FailsToBegin, FaultTells, GoesOn, HasService, IsAtTextEnd, IsReadFault, IsReadStanding, FirstTells, MemoryTells, ReaderState, SaysOneMore, StandingTells, StandsFor, WantTells, gave, with_answer}
pub use InTwo.{in_version_two, is_way, line_in_two, lines_in_two, pieces_in_two}
pub use Lines.{BeginsSilent, BeginsWithLine, HasByteAt, HasNoEnd, HoldsLine, HoldsNoLine, HoldsPart, IsPartOfLine, IsSilent, IsSkipped, LineEnds, LineState, ReachesLine, Skipped, StandsSilent, TextEnds, fault_at, line_at, unread}
pub use Worked.{line, named_datagrams, named_text, worked_header, worked_text}
pub use Written.{HasWritten, HasWrittenHosts, header_text, header_text_in, head_naming, host_field, line_naming}
pub use declared.fault.CaptureFault.{CaptureFault}
pub use declared.fault.TextFault.TheVariants.{BadEnd, BadHeader, BadHex, BadHost, BadLine, BadPort, BadService, LineTooLong, PayloadTooLong, TextTooLong, TotalWrong, TrailingText, Truncated}
pub use declared.fault.TextFault.{TextFault}
pub use declared.line_error.LineError.{LineError}
pub use declared.version.Version.TheVariants.{One, Two}
pub use declared.version.Version.{Version}
