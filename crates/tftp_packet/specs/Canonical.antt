-- The one spelling that is written for a message: names and mode in lower case, options in byte order of their
-- names, numbers without leading zeros.
use Rattle.std.specs.Prelude.{◌/◌, ◌%◌, ℕ, List, [], ◌∷◌, map as each, decimal}
use Rattle.std.specs.FinMap as map
use Rattle.tftp_packet.specs.OptionMaps.{OptionMap, OptionValue, Num, Text}
use Rattle.tftp_packet.specs.Messages.{Message, Request, Data, Ack, Error, Oack}
use Rattle.tftp_packet.specs.Written.{terminated, strings, Pair, pair_strings}
use Rattle.tftp_packet.specs.Spelling.{side_opcode, mode_name}
use Rattle.tftp_packet.specs.Owned.{Shown}

abbrev pub value_text : OptionValue → List ℕ
value_text (Num number) = decimal number
value_text (Text text) = text

abbrev pub shown_pair : Shown → Pair
shown_pair entry = (entry.0, value_text entry.1)

abbrev pub shown_pairs : List Shown → List Pair
shown_pairs entries = each shown_pair entries

-- the options of a map, in the order of their names
abbrev pub canonical_pairs : OptionMap → List Pair
canonical_pairs options = shown_pairs (map.entries options)

abbrev pub canonical : Message → List ℕ
canonical (Request request) = 0 ∷ side_opcode request.side ∷ strings (request.name ∷ mode_name request.mode ∷ pair_strings (canonical_pairs request.options))
canonical (Data block bytes) = 0 ∷ 3 ∷ block / 256 ∷ block % 256 ∷ bytes
canonical (Ack block) = 0 ∷ 4 ∷ block / 256 ∷ block % 256 ∷ []
canonical (Error code message) = 0 ∷ 5 ∷ code / 256 ∷ code % 256 ∷ terminated message
canonical (Oack options) = 0 ∷ 6 ∷ strings (pair_strings (canonical_pairs options))
