-- The capture text: which bytes stand for a header and datagrams, and what is wrong with any other text. In version 2 a
-- line of a datagram names the other host, in version 1 it does not.
-- The whole text is divided at LF; what its lines say is said of whole lines.
use Rattle.std.specs.Prelude.{◌≡◌, ◌≢◌, ℕ, ◌+◌, ◌^◌, ◌<◌, ◌≤◌, Bool, true, false, ◌⊎◌, ◌==◌, if◌then◌else◌, List, [], ◌∷◌, ◌++◌, length, map, All, flat_map, None, Ok, codes, decimal}
use Rattle.std.specs.List.{slice_split, join_with_byte, AllZip}
use Rattle.hex.specs.Hex.{encode_lower, decode_of, IsBytes}
pub use Rattle.tftp_packet.specs.Hosts.Capture.{Datagram, Header}
use Rattle.tftp_packet.specs.Hosts.{IsHost, no_host}
use Rattle.tftp_packet.specs.{Dir, In, Out}
use Rattle.tftp_packet.specs.{End, Client, Server}
use Rattle.tftp_capture.specs.declared.fault.TextFault.{TextFault}
use Rattle.tftp_capture.specs.declared.fault.TextFault.TheVariants.{BadHeader, BadEnd, BadService, LineTooLong, BadLine, BadPort, BadHost, BadHex, PayloadTooLong, TotalWrong, Truncated, TrailingText, TextTooLong}
use Rattle.tftp_capture.specs.declared.version.Version.{Version}
use Rattle.tftp_capture.specs.declared.version.Version.TheVariants.{One, Two}

-- a datagram and the number of its line
abbrev pub Numbered : Type 0
Numbered = ℕ × Datagram

-- ---- the lines, without their LF

abbrev pub dir_word : Dir → List ℕ
dir_word In = codes "in"
dir_word Out = codes "out"

abbrev pub end_word : End → List ℕ
end_word Client = codes "client"
end_word Server = codes "server"

abbrev pub head_line : Version → List ℕ
head_line One = codes "tftp-capture 1"
head_line Two = codes "tftp-capture 2"

abbrev pub end_line : End → List ℕ
end_line named = codes "end " ++ end_word named

abbrev pub service_line : ℕ → List ℕ
service_line port = codes "service " ++ decimal port

abbrev pub payload_text : List ℕ → List ℕ
payload_text [] = codes "-"
payload_text (b ∷ bs) = encode_lower (b ∷ bs)

-- the canonical line of a datagram that names no host: its four fields, a space between each two
abbrev pub datagram_line : Datagram → List ℕ
datagram_line d = join_with_byte 32 (dir_word d.dir ∷ decimal d.local ∷ decimal d.remote ∷ payload_text d.payload ∷ [])

-- the canonical line of a datagram in version 2: its five fields, the host among them, a space between each two
abbrev pub line_with_host : Datagram → List ℕ
line_with_host d = join_with_byte 32 (dir_word d.dir ∷ decimal d.local ∷ d.host ∷ decimal d.remote ∷ payload_text d.payload ∷ [])

abbrev pub total_line : ℕ → List ℕ
total_line count = codes "total " ++ decimal count

-- the lines, each with its LF
abbrev pub whole_lines : List (List ℕ) → List ℕ
whole_lines lines = flat_map (λ line. line ++ 10 ∷ []) lines

-- the canonical text of datagrams that name no host, which is of version 1
abbrev pub text_of : Header → List Datagram → List ℕ
text_of header datagrams =
    whole_lines (head_line One ∷ end_line header.named ∷ service_line header.service ∷ (map datagram_line datagrams ++ total_line (length datagrams) ∷ []))

-- the canonical text of datagrams with their hosts, which is of version 2
abbrev pub text_with_hosts : Header → List Datagram → List ℕ
text_with_hosts header datagrams =
    whole_lines (head_line Two ∷ end_line header.named ∷ service_line header.service ∷ (map line_with_host datagrams ++ total_line (length datagrams) ∷ []))

-- ---- what a line says

abbrev pub IsPort : ℕ → Type 0
IsPort n = (1 ≤ n) × (n ≤ 65535)

-- an empty line, and one that begins with `#`
abbrev pub says_nothing : List ℕ → Bool
says_nothing [] = true
says_nothing (b ∷ bs) = b == 35

-- a line, cut at single spaces
abbrev pub pieces : List ℕ → List (List ℕ)
pieces line = slice_split (λ b. b == 32) line

-- the bytes spell a port
abbrev pub SpellsPort : List ℕ → ℕ → Type 0
SpellsPort bytes port = IsPort port × (bytes ≡ decimal port)

-- the bytes spell a payload: `-` for none, else two hex digits of either case for each byte
abbrev pub SpellsPayload : List ℕ → List ℕ → Type 0
SpellsPayload bytes payload = ((bytes ≡ codes "-") × (payload ≡ [])) ⊎ ((payload ≢ []) × (decode_of bytes ≡ Ok payload))

-- the pieces of a datagram's line are these fields; version 1 has no piece for the host, which is `-` there
abbrev pub AreFields : Version → List (List ℕ) → (word local host remote digits : List ℕ) → Type 0
AreFields One ps word local host remote digits = (ps ≡ word ∷ local ∷ remote ∷ digits ∷ []) × (host ≡ no_host)
AreFields Two ps word local host remote digits = ps ≡ word ∷ local ∷ host ∷ remote ∷ digits ∷ []

-- the line has the fields of a datagram's
pub record HasFields (version : Version) (line word local host remote digits : List ℕ) : Type 0 where
  pub cut : AreFields version (pieces line) word local host remote digits
  pub dir : (dir : Dir) × (word ≡ dir_word dir)

-- the line has the fields of a datagram's, and its ports are ports
pub record HasPorts (version : Version) (line host digits : List ℕ) : Type 0 where
  pub word : List ℕ
  pub local : List ℕ
  pub remote : List ℕ
  pub fields : HasFields version line word local host remote digits
  pub local_port : (port : ℕ) × SpellsPort local port
  pub remote_port : (port : ℕ) × SpellsPort remote port

-- the line stands for the datagram
pub record SaysDatagram (version : Version) (line : List ℕ) (d : Datagram) : Type 0 where
  pub local : List ℕ
  pub remote : List ℕ
  pub digits : List ℕ
  pub cut : AreFields version (pieces line) (dir_word d.dir) local d.host remote digits
  pub local_port : SpellsPort local d.local
  pub host : IsHost d.host
  pub remote_port : SpellsPort remote d.remote
  pub payload : SpellsPayload digits d.payload
  pub fits : length d.payload ≤ 65527

-- ---- what whole lines say, one after another

-- the lines that say something, each with its number, the first line having the number n
abbrev pub said : ℕ → List (List ℕ) → List (ℕ × List ℕ)
said n [] = []
said n (line ∷ lines) = if says_nothing line then said (n + 1) lines else ((n, line) ∷ said (n + 1) lines)

-- what is due after some whole lines: the first line, the end line, the service line, a datagram or the total, nothing
pub data Due : Type 0 where
  Head : Due
  EndLine : (version : Version) → Due
  ServiceLine : (version : Version) (named : End) → Due
  Body : (version : Version) (header : Header) → Due
  Nothing : (version : Version) (header : Header) → Due

-- the most bytes of a line after the first, without its LF
abbrev pub longest_line : Version → ℕ
longest_line One = 131070
longest_line Two = 131116

-- the most bytes of a line where this is due
abbrev pub longest : Due → ℕ
longest Head = 131070
longest (EndLine version) = longest_line version
longest (ServiceLine version named) = longest_line version
longest (Body version header) = longest_line version
longest (Nothing version header) = longest_line version

-- The lines said after the first are the end line, the service line, and a line for each datagram. What comes after block 65535
-- no line says.
pub record SaysDatagrams (version : Version) (lines : List (List ℕ)) (header : Header) (datagrams : List Numbered) : Type 0 where
  pub after_head : List (List ℕ)
  pub at_end : ℕ
  pub at_service : ℕ
  pub bodies : List (ℕ × List ℕ)
  pub begins : lines ≡ head_line version ∷ after_head
  pub are : said 2 after_head ≡ (at_end, end_line header.named) ∷ (at_service, service_line header.service) ∷ bodies
  pub port : IsPort header.service
  pub plain : header.rollover ≡ None
  pub each : AllZip (λ line d. (line.0 ≡ d.0) × SaysDatagram version line.1 d.1) bodies datagrams

-- the whole lines say the datagrams, and this is due after them
abbrev pub Says : List (List ℕ) → Due → List Numbered → Type 0
Says lines Head datagrams = (lines ≡ []) × (datagrams ≡ [])
Says lines (EndLine version) datagrams = (after : List (List ℕ)) × (lines ≡ head_line version ∷ after) × (said 2 after ≡ []) × (datagrams ≡ [])
Says lines (ServiceLine version named) datagrams = (after : List (List ℕ)) × (n : ℕ) × (lines ≡ head_line version ∷ after) × (said 2 after ≡ (n, end_line named) ∷ []) × (datagrams ≡ [])
Says lines (Body version header) datagrams = SaysDatagrams version lines header datagrams
Says lines (Nothing version header) datagrams = (before : List (List ℕ)) × (lines ≡ before ++ total_line (length datagrams) ∷ []) × SaysDatagrams version before header datagrams

-- ---- texts

abbrev pub IsOver : Due → Type 0
IsOver (Nothing version header) = Unit {0}
IsOver _ = ⊥

-- No byte of the text is wrong: divided at LF it has these whole lines, and this rest of a line that has not ended. The
-- first line is short, once it is whole, so it keeps the later lines' limit too.
pub record Stands (text : List ℕ) (lines : List (List ℕ)) (rest : List ℕ) (due : Due) (datagrams : List Numbered) : Type 0 where
  pub divided : slice_split (λ b. b == 10) text ≡ lines ++ rest ∷ []
  pub says : Says lines due datagrams
  pub short : length text ≤ 2 ^ 40
  pub narrow : All (λ line. length line ≤ longest due) lines
  pub narrow_rest : length rest ≤ longest due
  pub last : IsOver due → rest ≡ []

-- what is wrong with the content of a line where a datagram or the total is due, after so many datagrams
abbrev pub BodyFault : Version → ℕ → List ℕ → TextFault → Type 0
BodyFault version count line BadLine = ((word local host remote digits : List ℕ) → HasFields version line word local host remote digits → ⊥) × ((number : List ℕ) → pieces line ≢ codes "total" ∷ number ∷ [])
BodyFault version count line BadPort = (word local host remote digits : List ℕ) × HasFields version line word local host remote digits × ((l r : ℕ) → SpellsPort local l → SpellsPort remote r → ⊥)
BodyFault version count line BadHost = (host digits : List ℕ) × HasPorts version line host digits × (IsHost host → ⊥)
BodyFault version count line BadHex = (host digits : List ℕ) × HasPorts version line host digits × IsHost host × ((payload : List ℕ) → SpellsPayload digits payload → ⊥)
BodyFault version count line PayloadTooLong = (host digits payload : List ℕ) × HasPorts version line host digits × IsHost host × SpellsPayload digits payload × (65527 < length payload)
BodyFault version count line TotalWrong = (number : List ℕ) × (pieces line ≡ codes "total" ∷ number ∷ []) × (number ≢ decimal count)
BodyFault version count line _ = ⊥

-- what is wrong with the content of a whole line, by what was due
abbrev pub LineFault : Due → ℕ → List ℕ → TextFault → Type 0
LineFault Head count line fault = (fault ≡ BadHeader) × ((version : Version) → line ≢ head_line version)
LineFault (EndLine version) count line fault = (fault ≡ BadEnd) × (says_nothing line ≡ false) × ((named : End) → line ≢ end_line named)
LineFault (ServiceLine version named) count line fault = (fault ≡ BadService) × (says_nothing line ≡ false) × ((port : ℕ) → IsPort port → line ≢ service_line port)
LineFault (Body version header) count line fault = (says_nothing line ≡ false) × BodyFault version count line fault
LineFault (Nothing version header) count line fault = ⊥

-- What is wrong with a byte that comes after a text of which no byte is wrong: while a line is read the first of
-- TextTooLong, TrailingText and LineTooLong; at its LF what is wrong with its content.
abbrev pub ByteFault : ℕ → List ℕ → Due → ℕ → ℕ → TextFault → Type 0
ByteFault size rest due count byte TextTooLong = size ≡ 2 ^ 40
ByteFault size rest due count byte TrailingText = (size < 2 ^ 40) × IsOver due
ByteFault size rest due count byte LineTooLong = (size < 2 ^ 40) × (IsOver due → ⊥) × (length rest ≡ longest due) × (byte ≢ 10)
ByteFault size rest due count byte Truncated = ⊥
ByteFault size rest due count byte fault = (size < 2 ^ 40) × (byte ≡ 10) × LineFault due count rest fault

-- the byte after `read` is the first that is wrong
pub record FailsAt (read : List ℕ) (byte : ℕ) (datagrams : List Numbered) (line : ℕ) (fault : TextFault) : Type 0 where
  pub lines : List (List ℕ)
  pub rest : List ℕ
  pub due : Due
  pub stands : Stands read lines rest due datagrams
  pub at_line : line ≡ length lines + 1
  pub wrong : ByteFault (length read) rest due (length datagrams) byte fault

-- no byte of the text is wrong, and it ends in this line
pub record Unfinished (text : List ℕ) (datagrams : List Numbered) (line : ℕ) (due : Due) : Type 0 where
  pub lines : List (List ℕ)
  pub rest : List ℕ
  pub stands : Stands text lines rest due datagrams
  pub at_line : line ≡ length lines + 1

-- the text has no fault, and says this, in one of the versions
abbrev pub IsCapture : List ℕ → Header → List Numbered → Type 0
IsCapture text header datagrams = (version : Version) × (lines : List (List ℕ)) × Stands text lines [] (Nothing version header) datagrams

-- the text's fault, its line, and the datagrams on the lines before it
abbrev pub HasFault : List ℕ → List Numbered → ℕ → TextFault → Type 0
HasFault text datagrams line Truncated = (due : Due) × Unfinished text datagrams line due × (IsOver due → ⊥)
HasFault text datagrams line fault = (read more : List ℕ) × (byte : ℕ) × (text ≡ read ++ byte ∷ more) × FailsAt read byte datagrams line fault

-- what a text says: a capture, or a fault
pub data Reading : Type 0 where
  Capture : (header : Header) (datagrams : List Numbered) → Reading
  Fault : (datagrams : List Numbered) (line : ℕ) (fault : TextFault) → Reading

abbrev pub Reads : List ℕ → Reading → Type 0
Reads text (Capture header datagrams) = IsCapture text header datagrams
Reads text (Fault datagrams line fault) = HasFault text datagrams line fault

-- the text begins with whole lines, of which no byte is wrong, that say the header and these datagrams in one of the
-- versions
pub record Begins (text : List ℕ) (header : Header) (datagrams : List Numbered) : Type 0 where
  pub read : List ℕ
  pub more : List ℕ
  pub lines : List (List ℕ)
  pub are : text ≡ read ++ more
  pub stands : (version : Version) × Stands read lines [] (Body version header) datagrams

-- a list begins with another
abbrev pub BeginsWith : {A : Type 0} → List A → List A → Type 0
BeginsWith {A} whole part = (rest : List A) × (whole ≡ part ++ rest)

-- ---- laws

-- a datagram that a text can hold
pub record IsLawful (d : Datagram) : Type 0 where
  pub local : IsPort d.local
  pub host : IsHost d.host
  pub remote : IsPort d.remote
  pub bytes : IsBytes d.payload
  pub fits : length d.payload ≤ 65527

-- the datagram names no host
abbrev pub NamesNoHost : Datagram → Type 0
NamesNoHost d = d.host ≡ no_host

-- the datagrams on lines one after another, the first on line n
abbrev pub numbered : ℕ → List Datagram → List Numbered
numbered n [] = []
numbered n (d ∷ ds) = (n, d) ∷ numbered (n + 1) ds
