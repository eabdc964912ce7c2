pub mod Words
pub mod Names
pub mod Outputs
pub mod Sources
pub mod Running
pub mod Beside
pub mod KeptNumbers
pub mod Shown
pub mod WorkedBeside
pub mod Judged
pub mod Checked
pub mod Extracted
pub mod Normalised
pub mod Counted
pub mod Losses
pub mod Run
pub mod One
pub use Words.{IsCommand, IsNoCommand, audit_app, digit_of, memory_fault, name_of, option_words, rollover_of, with_command}
pub use Names.{by_name, packet_fault_name, text_fault_name}
pub use Outputs.{IsWritten, Output, Prints, fault_line, memory_line, usage_line}
pub use Sources.{AsGiven, AsRead, Extent, HasRead, Source, given, so_far}
pub use Beside.{IsHighBy, IsHighFor, beside, block_text, other_block, since_request}
pub use KeptNumbers.{IsKept, IsKeptBy, answers, begun_by, first_answer, header_in, is_between, read_as, sides_of}
pub use Shown.{AreFirst, AreFirstOf, AreLines, AreTaken, Cut, Ending, EndsBy, Faulty, IsDatagramLine, IsPayloadText, IsShown, StopsAfter, WantsAfter, WantsToShow, Whole, last_line, message_text, status_of}
pub use WorkedBeside.{one_byte, past_the_round, shown_by_number, shown_by_one, shown_by_zero}
pub use Judged.{IsJudged, IsSaid, IsToldBy}
pub use Running.{Runs}
pub use Checked.{IsChecked, checked, detail, refusal_line, verdict_status}
pub use Extracted.{IsExtracted, extracted}
pub use Normalised.{IsNormalised, IsUnwritten, normalised}
pub use Counted.{IsCounted, counted}
pub use Losses.{AsksForLosses, IsCheckedWithLosses, IsFoundIn, IsToldOf, losses_line, newlines, says_unlawful, with_losses}
pub use Run.{IsOutput, IsOutputOf, IsRefused}
pub use One.{HasDatagram, IsLeft, IsMemoryOutput, IsNoMemoryEnding, IsUnread, SaysNoMemory, TellsOfMemory, empty_text, first_datagram, first_text}
pub use declared.status.Status.{Status}
pub use declared.words.Action.{Action}
pub use declared.words.Action.TheVariants.{Check, Count, Extract, Normal, Show}
pub use declared.words.UsageFault.{UsageFault}
