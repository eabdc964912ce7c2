-- A map against options as they are written.
use Rattle.std.specs.Prelude.{◌≡◌, List, Some}
use Rattle.std.specs.List.{AllByRecursion}
use Rattle.std.specs.FinMap as map
use Rattle.tftp_packet.specs.OptionMaps.{OptionMap, lower, value_of}
use Rattle.tftp_packet.specs.Written.{Pair}

-- the map has the option, with its value
abbrev pub HasPair : OptionMap → Pair → Type 0
HasPair options pair = map.get options (lower pair.0) ≡ Some (value_of (lower pair.0) pair.1)

abbrev pub HasEach : OptionMap → List Pair → Type 0
HasEach options pairs = AllByRecursion (HasPair options) pairs
