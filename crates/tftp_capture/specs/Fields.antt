-- What the fields of a line spell.
use Rattle.std.specs.Prelude.{◌≡◌, true, false, Bool, ℕ, ◌<◌, ◌≤◌, List, ◌∷◌, length, Option, Some, None, Result, Ok, Err}
use Rattle.tftp_packet.specs.Hosts.{no_host}
use Rattle.tftp_capture.specs.declared.fault.TextFault.TheVariants.{BadHex, PayloadTooLong}
use Rattle.tftp_capture.specs.declared.line_error.LineError.{LineError}
use Rattle.tftp_capture.specs.declared.line_error.LineError.TheVariants.{Text, Read, Memory}
use Rattle.tftp_capture.specs.declared.datagram.Datagram.{Datagram as Owned}
use Rattle.tftp_capture.specs.declared.datagram.Header.{Header as OwnedHeader}
use Rattle.tftp_capture.specs.CaptureText.{Datagram, Header, BodyFault, SaysDatagram, SpellsPayload, total_line}
use Rattle.tftp_capture.specs.declared.version.Version.{Version}
use Rattle.tftp_capture.specs.declared.version.Version.TheVariants.{One, Two}

-- the datagram that a value in memory is
abbrev pub datagram_of : Owned → Datagram
datagram_of d = record { dir = d.dir; local = d.local_port; host = d.remote_host; remote = d.remote_port; payload = d.payload }

-- the header that a value in memory is
abbrev pub header_of : OwnedHeader → Header
header_of h = record { named = h.named; service = h.service; rollover = h.rollover }

-- the answer of a call that fills what the caller holds: a success answers what is held then
abbrev pub filled : {T E : Type 0} → Result (Unit {0}) E → T → Result T E
filled (Ok _) held = Ok held
filled (Err e) held = Err e

-- the same of a call that also says whether there was anything
abbrev pub filled_if : {T E : Type 0} → Result Bool E → T → Result (Option T) E
filled_if (Ok true) held = Ok (Some held)
filled_if (Ok false) held = Ok None
filled_if (Err e) held = Err e

-- the pieces of a line begin with these fields of a datagram's, but its digits; version 1 has no piece for the host
abbrev pub BeginWithFields : Version → List (List ℕ) → (word local host remote : List ℕ) → List (List ℕ) → Type 0
BeginWithFields One ps word local host remote rest = (ps ≡ word ∷ local ∷ remote ∷ rest) × (host ≡ no_host)
BeginWithFields Two ps word local host remote rest = ps ≡ word ∷ local ∷ host ∷ remote ∷ rest

-- a payload, or why the digits spell none that a datagram can carry
abbrev pub PayloadEnds : Result (List ℕ) LineError → List ℕ → Type 0
PayloadEnds (Ok payload) digits = SpellsPayload digits payload × (length payload ≤ 65527)
PayloadEnds (Err (Text BadHex)) digits = (payload : List ℕ) → SpellsPayload digits payload → ⊥
PayloadEnds (Err (Text PayloadTooLong)) digits = (payload : List ℕ) × SpellsPayload digits payload × (65527 < length payload)
PayloadEnds (Err (Text _)) digits = ⊥
PayloadEnds (Err Read) digits = ⊥
PayloadEnds (Err Memory) digits = (payload : List ℕ) × SpellsPayload digits payload × (length payload ≤ 65527)

-- what a line with a datagram's first word says, or what is wrong with it, after so many datagrams
abbrev pub DatagramEnds : Version → Result Owned LineError → List ℕ → ℕ → Type 0
DatagramEnds version (Ok d) line count = SaysDatagram version line (datagram_of d)
DatagramEnds version (Err (Text fault)) line count = BodyFault version count line fault
DatagramEnds version (Err Read) line count = ⊥
DatagramEnds version (Err Memory) line count = (d : Datagram) × SaysDatagram version line d

-- the same of a line with the total's first word
abbrev pub TotalEnds : Version → Result (Unit {0}) LineError → List ℕ → ℕ → Type 0
TotalEnds version (Ok _) line count = line ≡ total_line count
TotalEnds version (Err (Text fault)) line count = BodyFault version count line fault
TotalEnds version (Err Read) line count = ⊥
TotalEnds version (Err Memory) line count = ⊥

-- what a line says, or what is wrong with it, where a datagram or the total is due after so many datagrams
abbrev pub BodyEnds : Version → Result (Option Owned) LineError → List ℕ → ℕ → Type 0
BodyEnds version (Ok (Some d)) line count = SaysDatagram version line (datagram_of d)
BodyEnds version (Ok None) line count = line ≡ total_line count
BodyEnds version (Err (Text fault)) line count = BodyFault version count line fault
BodyEnds version (Err Read) line count = ⊥
BodyEnds version (Err Memory) line count = (d : Datagram) × SaysDatagram version line d
