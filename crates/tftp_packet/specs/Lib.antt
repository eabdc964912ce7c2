pub mod Hosts
pub mod Rounds
pub mod OptionMaps
pub mod Numbers
pub mod Messages
pub mod Written
pub mod Spelling
pub mod Meaning
pub mod FirstOf
pub mod Faults
pub mod AsWritten
pub mod Reading
pub mod Worked
pub mod OptionFaults
pub mod Owned
pub mod Canonical
pub mod Same
pub mod Names
pub mod Rows
pub use OptionMaps.{Num, OptionMap, OptionValue, Text, is_within, lower, no_options, number_in}
unfoldable pub use OptionMaps.{is_known_number, is_number, range_of, value_of}
pub use Messages.{Ack, Data, Error, Message, Oack, Request, RequestParts}
pub use Written.{AreApart, AreNamed, AreOptions, AreStrings, IsString, Pair, SameName, WrittenRequest, map_of, pair_strings, pair_up, pairs_of, parts, strings, strings_of, terminated, text_of}
pub use Spelling.{IsPair, IsPlace, but_third, bytes_in, Layout, Spells, SpellsOack, SpellsRequest, mode_name, side_opcode}
pub use Meaning.{IsSpellable, meaning}
pub use FirstOf.{IsFirst, NoneBelow}
pub use Faults.{AnyOf, EndsWithZero, FirstFault, HasMode, HasOptionStrings, HasRepeat, Holds, IsRequest, IsRequestOf, ModeFault, number, opcode_of}
pub use AsWritten.{IsWritten, IsWrittenOack, IsWrittenRequest, request_strings, written_oack, written_request}
pub use Reading.{Judges}
pub use Worked.{long_name}
pub use OptionFaults.{HoldsOptions, OptionFault}
pub use Owned.{AreInOrder, AreLower, Shown, options_code, parts_code, place, shown, shown_entries, shown_entry, side_code}
pub use Canonical.{canonical, canonical_pairs, shown_pair, shown_pairs, value_text}
pub use Same.{HasEach}
pub use Names.{HasCommon, HasTwo, HasTwoBeside, StandsFirst, as_name, is_of, keys_in, keys_of, mixed, those}
unfoldable pub use Names.{mark_of}
pub use declared.fault.PacketFault.{PacketFault}
pub use declared.fault.PacketFault.TheVariants.{AckLength, DuplicateOption, EmptyOptionName, MailMode, NoTerminator, OddOptions, Opcode, RequestTooLong, Short, UnknownMode}
pub use declared.kinds.End.{End}
pub use declared.kinds.End.TheVariants.{Client, Server}
pub use declared.kinds.Mode.{Mode}
pub use declared.kinds.Mode.TheVariants.{Netascii, Octet}
pub use declared.kinds.Side.{Side}
pub use declared.kinds.Side.TheVariants.{Get, Put}
pub use declared.owned_options.Entry.{Entry}
pub use declared.packet.Packet.{Packet}
pub use declared.hosts.dir.Dir.{Dir}
pub use declared.hosts.dir.Dir.TheVariants.{In, Out}
pub use declared.rounds.rollover.Rollover.{Rollover}
pub use declared.rounds.rollover.Rollover.TheVariants.{One, Zero}
