-- Payloads and their parts for worked examples.
use Rattle.std.specs.Prelude.{ℕ, List, [], ◌∷◌, codes, replicate}
use Rattle.tftp_packet.specs.Written.{Pair, WrittenRequest}
use Rattle.tftp_packet.specs.declared.kinds.Side.TheVariants.{Get}
use Rattle.tftp_packet.specs.declared.kinds.Mode.TheVariants.{Octet}

abbrev pub capital_window : Pair
capital_window = (codes "WindowSize", codes "4")

abbrev pub capital_size : Pair
capital_size = (codes "BLKSIZE", codes "08")

-- a read of the file `a`
abbrev pub capital_request : WrittenRequest
capital_request = record { side = Get; name = codes "a"; mode = Octet; pairs = capital_size ∷ [] }

-- its bytes, with the mode `OctEt`
abbrev pub capitals_request : List ℕ
capitals_request = 0 ∷ 1 ∷ 97 ∷ 0 ∷ 79 ∷ 99 ∷ 116 ∷ 69 ∷ 116 ∷ 0 ∷ 66 ∷ 76 ∷ 75 ∷ 83 ∷ 73 ∷ 90 ∷ 69 ∷ 0 ∷ 48 ∷ 56 ∷ 0 ∷ []

-- the bytes of an OACK of both options
abbrev pub capitals_oack : List ℕ
capitals_oack = 0 ∷ 6 ∷ 87 ∷ 105 ∷ 110 ∷ 100 ∷ 111 ∷ 119 ∷ 83 ∷ 105 ∷ 122 ∷ 101 ∷ 0 ∷ 52 ∷ 0 ∷ 66 ∷ 76 ∷ 75 ∷ 83 ∷ 73 ∷ 90 ∷ 69 ∷ 0 ∷ 48 ∷ 56 ∷ 0 ∷ []

-- 494 times the letter `a`
abbrev pub long_name : List ℕ
long_name = replicate 494 97
