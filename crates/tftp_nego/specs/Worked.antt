-- Requests and OACKs for worked examples.
use Rattle.std.specs.Prelude.{ℕ, List, [], ◌∷◌, codes}
use Rattle.tftp_packet.specs.{RequestParts, Pair, map_of, Side, Octet}

-- one option
abbrev pub one : List ℕ → List ℕ → List Pair
one name text = (name, text) ∷ []

-- a request of the file `a` in octet mode
abbrev pub asks : Side → List Pair → RequestParts
asks side pairs = record { side = side; name = codes "a"; mode = Octet; options = map_of pairs }
