-- What `show` prints of a capture text: a line for each datagram, and the text's fault, if it has one.
use Rattle.std.specs.Prelude.{◌≡◌, ◌⊎◌, ℕ, ◌+◌, List, [], ◌∷◌, ◌++◌, length, Bool, true, false, Option, Some, None, codes, decimal}
use Rattle.std.specs.Io.KnownBytes.{IsAtEnd}
use Rattle.tftp_packet.specs.{Message, Request, Data, Ack, Error, Oack, Spells, FirstFault, PacketFault, Rollover}
use Rattle.tftp_capture.specs.CaptureText.{Header, Datagram}
use Rattle.tftp_capture.specs.CaptureText.Due.{Body}
use Rattle.tftp_capture.specs.{Numbered, Due, Stands, Version, dir_word, IsCapture, HasFault, SaysOneMore, Unfinished, Begins, IsAtTextEnd, CaptureFault}
use Rattle.tftp_capture.specs.declared.fault.CaptureFault.TheVariants.{Text, Read, Memory}
use Rattle.tftp_judge.specs.TextVerdict.{IsReadTo}
use Rattle.tftp_commands.specs.declared.status.Status.{Status}
use Rattle.tftp_commands.specs.declared.status.Status.TheVariants as status
use Rattle.tftp_commands.specs.Beside.{IsHighFor, beside}
use Rattle.tftp_commands.specs.Names.{request_name, packet_fault_name}
use Rattle.tftp_commands.specs.Outputs.{Output, fault_line}
use Rattle.tftp_commands.specs.Sources.{HasRead, Source}

-- ---- the lines of datagrams

-- the kind of a packet, and its numbers; the length of a block is that of its data
abbrev pub message_text : Message → List ℕ
message_text (Request request) = request_name request.side
message_text (Data block bytes) = codes "DATA " ++ decimal block ++ codes " " ++ decimal (length bytes)
message_text (Ack block) = codes "ACK " ++ decimal block
message_text (Error code message) = codes "ERROR " ++ decimal code
message_text (Oack options) = codes "OACK"

-- What is said of a payload where this is the highest block: by the message that it spells, with its block beside the number,
-- or by its first fault.
abbrev pub IsPayloadText : Option Rollover → (high : ℕ) → List ℕ → List ℕ → Type 0
IsPayloadText rollover high payload text =
    ((message : Message) × Spells payload message × (text ≡ message_text message ++ beside rollover high message))
    ⊎ ((fault : PacketFault) × FirstFault payload fault × (text ≡ codes "malformed " ++ packet_fault_name fault))

-- the line of the datagram with this number
abbrev pub IsDatagramLine : Option Rollover → (high number : ℕ) → Datagram → List ℕ → Type 0
IsDatagramLine rollover high number d line =
    (text : List ℕ) × IsPayloadText rollover high d.payload text × (line ≡ decimal number ++ codes " " ++ dir_word d.dir ++ codes " " ++ text ++ codes "\n")

-- the lines of datagrams that pass after earlier ones, of which the newest comes first; the numbers begin with 1
abbrev pub AreLines : Option Rollover → Header → (earlier : List Datagram) → List Numbered → List ℕ → Type 0
AreLines rollover header earlier [] bytes = bytes ≡ []
AreLines rollover header earlier (d ∷ datagrams) bytes =
    (high : ℕ) × IsHighFor rollover header earlier high
    × (line more : List ℕ) × IsDatagramLine rollover high (length earlier + 1) d.1 line × AreLines rollover header (d.1 ∷ earlier) datagrams more × (bytes ≡ line ++ more)

-- ---- where the showing ends

-- the datagrams are the first of the text, or none
abbrev pub AreFirst : List ℕ → List Numbered → Type 0
AreFirst text datagrams = (datagrams ≡ []) ⊎ ((header : Header) × Begins text header datagrams)

-- and this is its header
abbrev pub AreFirstOf : List ℕ → Header → List Numbered → Type 0
AreFirstOf text header datagrams = (datagrams ≡ []) ⊎ Begins text header datagrams

-- What was read is whole lines that say these datagrams and no more, and what a reader has read ahead of them.
pub record AreTaken (read : List ℕ) (datagrams : List Numbered) : Type 0 where
  pub taken : List ℕ
  pub ahead : List ℕ
  pub to : IsReadTo read taken ahead
  pub version : Version
  pub lines : List (List ℕ)
  pub header : Header
  pub stands : Stands taken lines [] (Body version header) datagrams

-- The reader wanted memory for this line: the first, before any byte was read and any datagram was given; or the last that
-- was taken, which says the datagram after these.
pub record WantsToShow (read : List ℕ) (datagrams : List Numbered) (line : ℕ) : Type 0 where
  pub taken : List ℕ
  pub ahead : List ℕ
  pub to : IsReadTo read taken ahead
  pub wants : ((read ≡ []) × (line ≡ 1) × (datagrams ≡ [])) ⊎ SaysOneMore taken datagrams line

-- the same of what was read of a source
abbrev pub StopsAfter : Source → List Numbered → Type 0
StopsAfter source datagrams = (read : List ℕ) × HasRead source.extent source.read read × AreTaken read datagrams

abbrev pub WantsAfter : Source → List Numbered → ℕ → Type 0
WantsAfter source datagrams line = (read : List ℕ) × HasRead source.extent source.read read × WantsToShow read datagrams line

-- at the text's end, at a fault, or where a write failed
pub data Ending : Type 0 where
  Whole : Ending
  Faulty : (fault : CaptureFault) → Ending
  Cut : Ending

-- The datagrams are all that the source gave before this ending; `cut` says whether a write failed. A text's end, and
-- the fault Truncated, come at the source's end; the fault Read where a read failed, and there alone. Memory is wanted for
-- the line after them; where a write failed, they are all that was taken.
abbrev pub EndsBy : Ending → Source → Bool → List Numbered → Type 0
EndsBy Whole source cut datagrams = ((header : Header) × IsCapture source.read header datagrams) × IsAtEnd source.left × (source.failed ≡ false)
EndsBy (Faulty (Text line fault)) source cut datagrams = HasFault source.read datagrams line fault × (IsAtTextEnd (Text line fault) → IsAtEnd source.left) × (source.failed ≡ false)
EndsBy (Faulty (Read line)) source cut datagrams = ((due : Due) × Unfinished source.read datagrams line due) × (source.failed ≡ true)
EndsBy (Faulty (Memory line)) source cut datagrams = AreFirst source.read datagrams × (source.failed ≡ false) × WantsAfter source datagrams line
EndsBy Cut source cut datagrams = AreFirst source.read datagrams × (source.failed ≡ false) × (cut ≡ true) × StopsAfter source datagrams

-- the ending of a text that was read to its end, or to this fault
abbrev pub ending_of : Option CaptureFault → Ending
ending_of None = Whole
ending_of (Some fault) = Faulty fault

abbrev pub last_line : Ending → List ℕ
last_line Whole = []
last_line (Faulty fault) = fault_line fault
last_line Cut = []

abbrev pub status_of : Ending → Status
status_of Whole = status.Success
status_of (Faulty fault) = status.Fault
status_of Cut = status.Fault

-- the output is the lines of the datagrams, numbered from 1, and the fault's
pub record IsShown (rollover : Option Rollover) (source : Source) (cut : Bool) (output : Output) : Type 0 where
  pub header : Header
  pub datagrams : List Numbered
  pub ending : Ending
  pub lines : List ℕ
  pub first : AreFirstOf source.read header datagrams
  pub are : AreLines rollover header [] datagrams lines
  pub ends : EndsBy ending source cut datagrams
  pub is : output ≡ record { bytes = lines ++ last_line ending; status = status_of ending }
