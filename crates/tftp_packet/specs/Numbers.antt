-- The numbers of options, and what counts where there is none (RFC 2347).
use Rattle.std.specs.Prelude.{ℕ, List, Option, Some, None}
use Rattle.std.specs.FinMap as map
use Rattle.tftp_packet.specs.OptionMaps.{OptionMap, OptionValue, Num, Text}

-- the number of an option, where the map has one
abbrev pub number_or : ℕ → Option OptionValue → ℕ
number_or default (Some (Num number)) = number
number_or default (Some (Text text)) = default
number_or default None = default

abbrev pub option_or : ℕ → OptionMap → List ℕ → ℕ
option_or default options name = number_or default (map.get options name)
