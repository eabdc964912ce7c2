-- Why a payload is no packet. The faults stand in the order in which they are tried.
use Rattle.std.specs.Prelude.{◌≡◌, ◌≢◌, ◌⊎◌, ◌+◌, ◌*◌, ◌%◌, ◌<◌, ℕ, List, [], ◌∷◌, length, codes}
use Rattle.tftp_packet.specs.FirstOf.{IsFirst}
use Rattle.tftp_packet.specs.OptionMaps.{lower}
use Rattle.tftp_packet.specs.Written.{IsString, AreStrings, terminated, strings, Pair, pair_strings, SameName}
use Rattle.tftp_packet.specs.declared.fault.PacketFault.{PacketFault}
use Rattle.tftp_packet.specs.declared.fault.PacketFault.TheVariants.{Short, Opcode, AckLength, NoTerminator, OddOptions, EmptyOptionName, DuplicateOption, UnknownMode, MailMode, RequestTooLong}

-- the number of the first two bytes, or 0 where there are fewer
abbrev pub opcode_of : List ℕ → ℕ
opcode_of [] = 0
opcode_of (x ∷ []) = 0
opcode_of (x ∷ y ∷ rest) = 256 * x + y

-- it begins as a request, and these bytes follow the opcode
abbrev pub IsRequest : List ℕ → List ℕ → Type 0
IsRequest payload body = (payload ≡ 0 ∷ 1 ∷ body) ⊎ (payload ≡ 0 ∷ 2 ∷ body)

-- the last byte is zero
abbrev pub EndsWithZero : List ℕ → Type 0
EndsWithZero bytes = (front : List ℕ) × (bytes ≡ terminated front)

-- a request whose strings, the name and the mode first, are these
abbrev pub IsRequestOf : List ℕ → List (List ℕ) → Type 0
IsRequestOf payload all = IsRequest payload (strings all) × AreStrings all

-- a request or an OACK in whose options these strings stand
abbrev pub HasOptionStrings : List ℕ → List (List ℕ) → Type 0
HasOptionStrings payload options =
    ((name mode_text : List ℕ) × IsRequestOf payload (name ∷ mode_text ∷ options))
    ⊎ ((payload ≡ 0 ∷ 6 ∷ strings options) × AreStrings options)

-- a request with this mode
abbrev pub HasMode : List ℕ → List ℕ → Type 0
HasMode payload mode_text = (name : List ℕ) × (options : List (List ℕ)) × IsRequestOf payload (name ∷ mode_text ∷ options)

-- some element has the property
abbrev pub AnyOf : {X : Type 0} → (X → Type 0) → List X → Type 0
AnyOf P [] = ⊥
AnyOf P (x ∷ xs) = P x ⊎ AnyOf P xs

-- some name is equal to a later one
abbrev pub HasRepeat : List Pair → Type 0
HasRepeat [] = ⊥
HasRepeat (pair ∷ pairs) = AnyOf (SameName pair) pairs ⊎ HasRepeat pairs

abbrev pub IsShort : List ℕ → Type 0
IsShort payload = (length payload < 2) ⊎ (((opcode_of payload ≡ 3) ⊎ (opcode_of payload ≡ 5)) × (length payload < 4))

abbrev pub HasNoTerminator : List ℕ → Type 0
HasNoTerminator payload =
    ((body : List ℕ) × IsRequest payload body × ((EndsWithZero body → ⊥) ⊎ ((only : List ℕ) × IsString only × (body ≡ terminated only))))
    ⊎ ((body : List ℕ) × (payload ≡ 0 ∷ 6 ∷ body) × (body ≢ []) × (EndsWithZero body → ⊥))
    ⊎ ((x y : ℕ) × (text : List ℕ) × (payload ≡ 0 ∷ 5 ∷ x ∷ y ∷ text) × ((message : List ℕ) → IsString message → text ≢ terminated message))

-- what each fault says of the payload
abbrev pub Holds : PacketFault → List ℕ → Type 0
Holds Short payload = IsShort payload
Holds Opcode payload = (opcode_of payload ≡ 0) ⊎ (6 < opcode_of payload)
Holds AckLength payload = (opcode_of payload ≡ 4) × (length payload ≢ 4)
Holds NoTerminator payload = HasNoTerminator payload
Holds OddOptions payload = (options : List (List ℕ)) × HasOptionStrings payload options × (length options % 2 ≡ 1)
Holds EmptyOptionName payload = (pairs : List Pair) × HasOptionStrings payload (pair_strings pairs) × AnyOf (λ pair. pair.0 ≡ []) pairs
Holds DuplicateOption payload = (pairs : List Pair) × HasOptionStrings payload (pair_strings pairs) × HasRepeat pairs
Holds UnknownMode payload = (mode_text : List ℕ) × HasMode payload mode_text × (lower mode_text ≢ codes "octet") × (lower mode_text ≢ codes "netascii") × (lower mode_text ≢ codes "mail")
Holds MailMode payload = (mode_text : List ℕ) × HasMode payload mode_text × (lower mode_text ≡ codes "mail")
Holds RequestTooLong payload = (name mode_text : List ℕ) × (options : List (List ℕ)) × IsRequestOf payload (name ∷ mode_text ∷ options) × (options ≢ []) × (512 < length payload)

-- what a fault says of a mode in lower case
abbrev pub ModeFault : List ℕ → PacketFault → Type 0
ModeFault mode UnknownMode = (mode ≢ codes "octet") × (mode ≢ codes "netascii") × (mode ≢ codes "mail")
ModeFault mode MailMode = mode ≡ codes "mail"
ModeFault mode _ = ⊥

-- the place of a fault in the order
abbrev pub number : PacketFault → ℕ
number Short = 1
number Opcode = 2
number AckLength = 3
number NoTerminator = 4
number OddOptions = 5
number EmptyOptionName = 6
number DuplicateOption = 7
number UnknownMode = 8
number MailMode = 9
number RequestTooLong = 10

-- the fault holds of the payload, and none that stands before it does
abbrev pub FirstFault : List ℕ → PacketFault → Type 0
FirstFault payload fault = IsFirst number (λ f. Holds f payload) fault
