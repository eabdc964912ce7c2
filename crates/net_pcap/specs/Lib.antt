pub mod Numbers
pub mod Times
pub mod Frames
pub mod Classic
pub mod Options
pub mod Blocks
pub mod Losses
pub mod Pieces
pub mod Sizes
pub mod Stopping
pub mod History
pub mod Worked
pub use Numbers.{Spells, four, number_at, short_at, two}
pub use Times.{time_of}
pub use Frames.{FrameParts, FrameState, frame_at, longest_frame, no_frame}
pub use Classic.{SpellsHeader, SpellsRecord, fraction_unit, magic, major}
pub use Options.{BeginsWithOption, EndsOptions, OptionParts, SpellsOptions, first_value}
pub use Blocks.{SpellsBlock, SpellsEnhanced, SpellsInterface, SpellsObsolete, SpellsPacket, SpellsSection, SpellsSimple, SpellsStatistics, SpellsTimed, capped, count_said, counter_by, damaged_by, direction_by, kept, longest_block, missed_by, most_counted, offset_by, order_magic, section_type, units_by}
pub use Losses.{changed, lost_at, lost_in, with_missed, with_reported}
pub use Pieces.{Announces, AnnouncesSection, BeginsAsClassic, BeginsAsOne, BlockSays, BodySays, Follows, IsRecording, IsRecordingTo, IsSize, Mode, OpensAgain, OpensAs, Said, Says, Stands, front_of, given, lost_of, may_lose, named_in, next_mode, said_of, start}
pub use Sizes.{BlockSizeTells, IsIrregular, IsTooLong, SizeTells}
pub use Stopping.{EndReached, FrontEnds, IsBad, IsCut, IsLonger, IsPart, IsShort, IsSkipped, IsWhole, PiecesState, RestEnds, StepEnds, Stops, WantsMemory}
pub use History.{Continues, EndsIn, FailsAfter, FailsAs, FailsToBegin, FillTells, IsWrong, ReaderState, RunsOut, StandingTells, StandsFor}
pub use Worked.{after_all, counted, statistics_body, with_count, worked_blocks, worked_classic, worked_frame, worked_header, worked_described, worked_interface, worked_named, worked_packet, worked_record, worked_section}
pub use declared.fault.FaultKind.{FaultKind}
pub use declared.fault.FaultKind.TheVariants.{Bad, Memory, NotARecording, Read, TooLong, TooMany, Truncated}
pub use declared.fault.PcapFault.{PcapFault}
pub use declared.found.Found.{Found}
pub use declared.frame.Direction.{Direction}
pub use declared.frame.Direction.TheVariants.{In, Out, Unknown}
pub use declared.layout.Dropped.{Dropped}
pub use declared.layout.Interface.{Interface}
pub use declared.layout.NamedInterface.{NamedInterface}
pub use declared.layout.Layout.{Layout}
pub use declared.layout.Layout.TheVariants.{Unopened}
pub use declared.numbers.Order.{Order}
pub use declared.numbers.Order.TheVariants.{Big, Little}
pub use declared.place.Place.{Place}
