-- What is written of a capture: the lines of its datagrams, one after another.
use Rattle.std.specs.Prelude.{◌≡◌, ℕ, ◌+◌, false, List, length, map as each, Option, Result, Ok, Err}
use Rattle.tftp_packet.specs.Hosts.{no_host, Datagram}
use Rattle.tftp_packet.specs.{Dir, In, Out, Rollover}
use Rattle.tftp_packet.specs.{End, Client, Server}
use Rattle.tftp_capture.specs.{datagram_line, whole_lines}
use Rattle.net_streams.specs.Streams.{Gathers, Sink, Stops}
use Rattle.law_model.specs.Model.{Meaning, MachinePacket}
use Rattle.tftp_normal.specs.Normal.{normal_datagram_by}

-- a datagram that an end sent from its own port, seen at the client
abbrev pub dir_from : End → Dir
dir_from Client = Out
dir_from Server = In

abbrev pub sent_by : End → List ℕ → Datagram
sent_by author payload = record { dir = dir_from author; local = 50000; host = no_host; remote = 50001; payload = payload }

-- the request, which goes to the service port
abbrev pub asked_by : List ℕ → Datagram
asked_by payload = record { dir = Out; local = 50000; host = no_host; remote = 69; payload = payload }

-- the datagrams of packets
abbrev pub datagrams_of : Option Rollover → Meaning → List MachinePacket → List Datagram
datagrams_of rollover m packets = each (normal_datagram_by rollover m) packets

-- the lines of datagrams
abbrev pub lines_of : List Datagram → List ℕ
lines_of datagrams = whole_lines (each datagram_line datagrams)

-- the datagrams were put: their lines came after what waited, and they are counted
pub record HasPut {W : Type 0} (contents : W → Option (List ℕ)) (old new : Sink W) (was count : ℕ) (datagrams : List Datagram) : Type 0 where
  pub gathers : Gathers (contents old.inner) (contents new.inner) old.waits new.waits (lines_of datagrams)
  pub counted : count ≡ was + length datagrams

-- What a call that puts datagrams does, however it ends: no write has failed, then or before, and they were put; or one has.
abbrev pub Puts : {W E : Type 0} → (W → Option (List ℕ)) → Sink W → Sink W → Result (Unit {0}) E → ℕ → ℕ → List Datagram → Type 0
Puts contents old new (Ok _) was count datagrams = (old.failed ≡ false) × (new.failed ≡ false) × HasPut contents old new was count datagrams
Puts contents old new (Err e) was count datagrams = Stops contents old new (lines_of datagrams)
