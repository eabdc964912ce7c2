-- The parts of a command line: options with their values, and words that are none.
use Rattle.std.specs.Prelude.{◌≡◌, ◌≢◌, ◌⊎◌, ◌≤◌, ◌<◌, ◌^◌, ℕ, ◌+◌, List, [], ◌∷◌, ◌++◌, codes, map, Option, Some, Bool, false, if◌then◌else◌, option_to_list, length, ◌==◌}
use Rattle.std.specs.List.{list_any}
use Rattle.tftp_words.specs.declared.given.Given.{Given}
use Rattle.std.specs.Str.Parse.{IsNumeral, digits_value, without_leading_plus}
use Rattle.tftp_packet.specs.{End, Rollover, Zero, One}
use Rattle.tftp_packet.specs.declared.kinds.End.TheVariants as end
use Rattle.tftp_words.specs.declared.point.Point.{Point}
use Rattle.tftp_words.specs.declared.point.Point.TheVariants as point
use Rattle.tftp_words.specs.declared.part.Part.TheVariants as code
use Rattle.tftp_words.specs.declared.part.Part as code_part

abbrev pub Word : Type 0
Word = List ℕ

-- a port to which requests go, JSON, where the recording was made, what comes after block 65535, how often each packet was sent and taken, the
-- number of a transfer, its number at the server, a word that is no option
pub data Part : Type 0 where
  Service : (port : ℕ) → Part
  Json : Part
  At : (point : Point) → Part
  Again : (rollover : Rollover) → Part
  Counts : Part
  Transfer : (number : ℕ) → Part
  ServerTransfer : (number : ℕ) → Part
  Plain : (word : Word) → Part

-- decimal digits, before which a plus may stand, write this number
abbrev pub IsNumber : Word → ℕ → Type 0
IsNumber text n = IsNumeral 10 (without_leading_plus text) × (n ≡ digits_value 10 (without_leading_plus text))

abbrev pub IsPort : Word → ℕ → Type 0
IsPort text port = IsNumber text port × (1 ≤ port) × (port < 2 ^ 16)

-- the number of a transfer, of which the first is 1
abbrev pub IsTransfer : Word → ℕ → Type 0
IsTransfer text number = IsNumber text number × (1 ≤ number) × (number < 2 ^ 64)

abbrev pub end_word : End → Word
end_word end.Client = codes "client"
end_word end.Server = codes "server"

abbrev pub point_word : Point → Word
point_word point.Client = codes "client"
point_word point.Server = codes "server"
point_word point.Between = codes "between"

-- the number that comes after block 65535
abbrev pub rollover_word : Rollover → Word
rollover_word Zero = codes "0"
rollover_word One = codes "1"

-- an option's name and its value, in two words or with = in one
abbrev pub IsOption : Word → Word → List Word → Type 0
IsOption name value words = (words ≡ name ∷ value ∷ []) ⊎ (words ≡ (name ++ (codes "=" ++ value)) ∷ [])

-- a word that begins with no minus, or is a minus alone
abbrev pub IsPlain : Word → Type 0
IsPlain word = ((rest : Word) → word ≢ codes "-" ++ rest) ⊎ (word ≡ codes "-")

-- the name of the option that is this part
abbrev pub option_name : Part → Word
option_name (Service port) = codes "--service"
option_name Json = codes "--json"
option_name (At point) = codes "--end"
option_name (Again rollover) = codes "--rollover"
option_name Counts = codes "--counts"
option_name (Transfer number) = codes "--transfer"
option_name (ServerTransfer number) = codes "--server-transfer"
option_name (Plain word) = []

-- the option that is this part has this value
abbrev pub IsValue : Word → Part → Type 0
IsValue value (Service port) = IsPort value port
IsValue value (At point) = value ≡ point_word point
IsValue value (Again rollover) = value ≡ rollover_word rollover
IsValue value (Transfer number) = IsTransfer value number
IsValue value (ServerTransfer number) = IsTransfer value number
IsValue _ _ = ⊥

-- the words say this part, and nothing else
abbrev pub Says : List Word → Part → Type 0
Says words (Plain word) = IsPlain word × (words ≡ word ∷ [])
Says words Json = words ≡ codes "--json" ∷ []
Says words Counts = words ≡ codes "--counts" ∷ []
Says words p = (value : Word) × IsValue value p × IsOption (option_name p) value words

-- a name in which no = stands
abbrev pub IsName : Word → Type 0
IsName name = list_any (λ byte. byte == 61) name ≡ false

-- the words begin with this option, which takes one of them or two
abbrev pub Gives : Word → Word → Option Word → Word → ℕ → Type 0
Gives name word next value count =
    ((count ≡ 1) × (word ≡ name ++ (codes "=" ++ value)))
    ⊎ ((count ≡ 2) × (word ≡ name) × (next ≡ Some value))

-- the words begin with this part, which takes one of them or two
abbrev pub Begins : Word → Option Word → Part → ℕ → Type 0
Begins word next p count =
    ((count ≡ 1) × Says (word ∷ []) p)
    ⊎ ((count ≡ 2) × (second : Word) × (next ≡ Some second) × Says (word ∷ second ∷ []) p)

-- The words say these parts, one after the other; each word after `--` is no option.
pub data Say : List Word → List Part → Type 0 where
  Done : Say [] []
  First : (mine rest : List Word) (p : Part) (ps : List Part) → Says mine p → Say rest ps → Say (mine ++ rest) (p ∷ ps)
  Rest : (words : List Word) → Say (codes "--" ∷ words) (map Plain words)

-- ---- what the parts have, each in its order

abbrev pub services : List Part → List ℕ
services [] = []
services (Service port ∷ ps) = port ∷ services ps
services (_ ∷ ps) = services ps

abbrev pub points : List Part → List Point
points [] = []
points (At point ∷ ps) = point ∷ points ps
points (_ ∷ ps) = points ps

abbrev pub rollovers : List Part → List Rollover
rollovers [] = []
rollovers (Again rollover ∷ ps) = rollover ∷ rollovers ps
rollovers (_ ∷ ps) = rollovers ps

abbrev pub plains : List Part → List Word
plains [] = []
plains (Plain word ∷ ps) = word ∷ plains ps
plains (_ ∷ ps) = plains ps

-- how often JSON is wanted
abbrev pub jsons : List Part → ℕ
jsons [] = 0
jsons (Json ∷ ps) = 1 + jsons ps
jsons (_ ∷ ps) = jsons ps

-- how often counts are wanted
abbrev pub countings : List Part → ℕ
countings [] = 0
countings (Counts ∷ ps) = 1 + countings ps
countings (_ ∷ ps) = countings ps

abbrev pub transfers : List Part → List ℕ
transfers [] = []
transfers (Transfer number ∷ ps) = number ∷ transfers ps
transfers (_ ∷ ps) = transfers ps

abbrev pub server_transfers : List Part → List ℕ
server_transfers [] = []
server_transfers (ServerTransfer number ∷ ps) = number ∷ server_transfers ps
server_transfers (_ ∷ ps) = server_transfers ps

-- each option but a port is said once at most
abbrev pub IsOnce : List Part → Type 0
IsOnce ps =
    (jsons ps ≤ 1) × (length (points ps) ≤ 1) × (length (rollovers ps) ≤ 1)
    × (countings ps ≤ 1) × (length (transfers ps) ≤ 1) × (length (server_transfers ps) ≤ 1)

-- the parts have these ports, JSON or not, this point and this rollover if any, and these words
abbrev pub Have : List Part → List ℕ → Bool → Option Point → Option Rollover → List Word → Type 0
Have ps ports json at rollover words =
    (services ps ≡ ports) × (jsons ps ≡ (if json then 1 else 0)) × (points ps ≡ option_to_list at) × (rollovers ps ≡ option_to_list rollover)
    × (plains ps ≡ words)

-- the parts want counts or not, and choose these transfers, if any
abbrev pub Choose : List Part → Bool → Option ℕ → Option ℕ → Type 0
Choose ps counts transfer server_transfer =
    (countings ps ≡ (if counts then 1 else 0)) × (transfers ps ≡ option_to_list transfer) × (server_transfers ps ≡ option_to_list server_transfer)

-- what the code holds of a part
abbrev pub part : code_part.Part → Part
part (code.Service port) = Service port
part code.Json = Json
part (code.End point) = At point
part (code.Rollover rollover) = Again rollover
part code.Counts = Counts
part (code.Transfer number) = Transfer number
part (code.ServerTransfer number) = ServerTransfer number
part (code.Plain word) = Plain word.now

abbrev pub Holds : Given → List Part → Type 0
Holds given ps =
    Have ps given.services.items given.json given.end given.rollover (map (λ word. word.now) given.plain.items)
    × Choose ps given.counts given.transfer given.server_transfer
