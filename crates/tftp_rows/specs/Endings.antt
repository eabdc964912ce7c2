-- The words for how a transfer ended.
use Rattle.std.specs.Prelude.{ℕ, true, ◌==◌, ◌||◌, ◌++◌, ◌∷◌, List, [], Option, Some, None, codes, decimal, flat_map, if◌then◌else◌}
use Rattle.tftp_packet.specs.{End, Client, Server}
use Rattle.audit_flows.specs.{Address, V4, V6}
use Rattle.tftp_rows.specs.Plain.{host_text, plain_byte}
use Rattle.audit_recording.specs.declared.blame.stop.Stop.{Stop}
use Rattle.audit_recording.specs.declared.blame.undelivered.Undelivered.{Undelivered}
use Rattle.tftp_rows.specs.declared.conclusion.Conclusion.{Conclusion}
use Rattle.tftp_rows.specs.declared.conclusion.Conclusion.TheVariants.{Aborted, Unreached, Silent, Cut, Quiet}

abbrev pub role_name : End → List ℕ
role_name Client = codes "client"
role_name Server = codes "server"

-- a message as a person may read it: its spaces stay
abbrev pub message_byte : ℕ → List ℕ
message_byte byte = if byte == 32 then 32 ∷ [] else plain_byte byte

abbrev pub message_text : List ℕ → List ℕ
message_text message = flat_map message_byte message

-- ---- ICMP

-- what a code of "destination unreachable" says (RFC 792; RFC 1812, section 5.2.7.1; RFC 4443, section 3.1)
abbrev pub unreachable_name : Address → ℕ → Option (List ℕ)
unreachable_name (V4 bytes) code =
    if code == 3 then Some (codes "port unreachable")
    else if code == 0 then Some (codes "network unreachable")
    else if code == 1 then Some (codes "host unreachable")
    else if (code == 9) || ((code == 10) || (code == 13)) then Some (codes "prohibited")
    else None
unreachable_name (V6 bytes) code =
    if code == 4 then Some (codes "port unreachable")
    else if code == 0 then Some (codes "network unreachable")
    else if code == 3 then Some (codes "host unreachable")
    else if code == 1 then Some (codes "prohibited")
    else None

abbrev pub coded_text : ℕ → List ℕ → List ℕ
coded_text code host = codes "ICMP unreachable, code " ++ decimal code ++ codes ", from " ++ host

-- what the message says, and the host that sent it
abbrev pub unreachable_text : Undelivered → List ℕ
unreachable_text u = by (unreachable_name u.host u.code) where
  by : Option (List ℕ) → List ℕ
  by (Some name) = codes "ICMP " ++ name ++ codes " from " ++ host_text u.host
  by None = coded_text u.code (host_text u.host)

-- ---- how it ended

-- by an ERROR (RFC 1350, section 7)
abbrev pub stop_text : Stop → List ℕ
stop_text stop = codes "; ended: " ++ role_name stop.role ++ codes " ERROR " ++ decimal stop.code ++ codes " \"" ++ message_text stop.message.items ++ codes "\" frame " ++ decimal stop.frame

-- with a datagram that did not arrive
abbrev pub unreached_text : Undelivered → List ℕ
unreached_text u = codes "; ended: " ++ unreachable_text u ++ codes " frame " ++ decimal u.frame

abbrev pub fault_text : Conclusion → List ℕ
fault_text (Aborted stop before) = stop_text stop
fault_text (Unreached role seconds u) = unreached_text u
fault_text _ = []

-- that end was to go on
abbrev pub silent_text : End → ℕ → ℕ → List ℕ
silent_text role seconds frame = codes "; ended: " ++ role_name role ++ codes " silent for " ++ decimal seconds ++ codes " s after frame " ++ decimal frame

-- the recording ends there
abbrev pub cut_text : ℕ → List ℕ
cut_text frame = codes "; ended: with the recording after frame " ++ decimal frame

-- nothing passed for so long after the last datagram, whose sender this is
abbrev pub pause_text : End → ℕ → ℕ → List ℕ
pause_text role seconds frame = codes "; ended: nothing for " ++ decimal seconds ++ codes " s after frame " ++ decimal frame ++ codes " of the " ++ role_name role

abbrev pub quiet_text : End → ℕ → ℕ → List ℕ
quiet_text role seconds frame = if seconds == 0 then [] else pause_text role seconds frame

-- how it ended, unless it is whole
abbrev pub ended_text : Conclusion → List ℕ
ended_text (Silent role seconds frame) = silent_text role seconds frame
ended_text (Cut role frame) = cut_text frame
ended_text (Quiet role seconds frame) = quiet_text role seconds frame
ended_text c = fault_text c

abbrev pub abort_text : End → ℕ → List ℕ
abort_text role code = codes "aborted by " ++ role_name role ++ codes " code " ++ decimal code ++ codes ", and then "

-- that the other end's ERROR came before what is refused, if it did
abbrev pub before_text : Conclusion → List ℕ
before_text (Aborted stop true) = abort_text stop.role stop.code
before_text _ = []
