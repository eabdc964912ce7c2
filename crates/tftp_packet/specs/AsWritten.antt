-- Packets as they are written: the bytes of their strings and the order of their options, which a message leaves
-- out (RFC 1350, section 5; RFC 2347, section "Packet Formats").
use Rattle.std.specs.Prelude.{◌≡◌, ◌/◌, ◌%◌, ℕ, List, [], ◌∷◌}
use Rattle.tftp_packet.specs.OptionMaps.{lower}
use Rattle.tftp_packet.specs.Written.{AreStrings, terminated, strings, Pair, pair_strings, WrittenRequest}
use Rattle.tftp_packet.specs.Spelling.{side_opcode, mode_name}
use Rattle.tftp_packet.specs.declared.packet.Packet.{Packet}
use Rattle.tftp_packet.specs.declared.packet.Packet.TheVariants as packet

-- the strings of a request, its mode in this letter case
abbrev pub request_strings : List ℕ → WrittenRequest → List (List ℕ)
request_strings mode_text request = request.name ∷ mode_text ∷ pair_strings request.pairs

-- a request, written
abbrev pub written_request : List ℕ → WrittenRequest → List ℕ
written_request mode_text request = 0 ∷ side_opcode request.side ∷ strings (request_strings mode_text request)

-- an OACK, written
abbrev pub written_oack : List Pair → List ℕ
written_oack pairs = 0 ∷ 6 ∷ strings (pair_strings pairs)

-- the payload is this request, written with its mode in some letter case
abbrev pub IsWrittenRequest : List ℕ → WrittenRequest → Type 0
IsWrittenRequest payload request = (mode_text : List ℕ) × (lower mode_text ≡ mode_name request.mode)
    × AreStrings (request_strings mode_text request) × (payload ≡ written_request mode_text request)

-- the payload is an OACK of these options, written
abbrev pub IsWrittenOack : List ℕ → List Pair → Type 0
IsWrittenOack payload pairs = AreStrings (pair_strings pairs) × (payload ≡ written_oack pairs)

-- the payload is this packet, written
abbrev pub IsWritten : List ℕ → Packet → Type 0
IsWritten payload (packet.Request request) = IsWrittenRequest payload request
IsWritten payload (packet.Data block bytes) = payload ≡ 0 ∷ 3 ∷ block / 256 ∷ block % 256 ∷ bytes.now
IsWritten payload (packet.Ack block) = payload ≡ 0 ∷ 4 ∷ block / 256 ∷ block % 256 ∷ []
IsWritten payload (packet.Error code message) = payload ≡ 0 ∷ 5 ∷ code / 256 ∷ code % 256 ∷ terminated message.now
IsWritten payload (packet.Oack pairs) = IsWrittenOack payload pairs
