-- What is printed of a row as JSON (docs/schemas), member by member.
use Rattle.std.specs.Prelude.{ℕ, Bool, false, List, [], ◌∷◌, map, Option, Some, None, option_map, codes, string_bytes}
use Rattle.json.specs.Json.{Json, boolean, null, string}
use Rattle.tftp_packet.specs.{End, Rollover, Zero, One}
use Rattle.tftp_rows.specs.Reasons.{reason_text}
use Rattle.audit_recording.specs.{Accused}
use Rattle.tftp_rows.specs.Plain.{host_text}
use Rattle.audit_recording.specs.declared.blame.pace.Silence.{Silence}
use Rattle.audit_recording.specs.declared.blame.reason.Reason.{Reason}
use Rattle.tftp_rows.specs.Endings.{message_text, role_name, unreachable_text}
use Rattle.tftp_rows.specs.Members.{array_of, count_json, count_or_null, flag_or_null, object_of, text_or_null}
use Rattle.tftp_rows.specs.Rows.{place_name}
use Rattle.tftp_rows.specs.declared.conclusion.Conclusion.{Conclusion}
use Rattle.tftp_rows.specs.declared.conclusion.Conclusion.TheVariants.{Whole, Aborted, Unreached, Silent, Cut, Quiet, Unheard}
use Rattle.tftp_rows.specs.declared.row.VerdictRow.{VerdictRow}
use Rattle.tftp_rows.specs.declared.times.Repeated.{Repeated}
use Rattle.tftp_rows.specs.declared.times.Times.{Times}

-- ---- how it ended

abbrev pub how_word : Conclusion → List ℕ
how_word Whole = codes "whole"
how_word (Aborted stop before) = codes "error"
how_word (Unreached role seconds u) = codes "unreachable"
how_word (Silent role seconds frame) = codes "silent"
how_word (Cut role frame) = codes "recording"
how_word (Quiet role seconds frame) = codes "last"
how_word Unheard = codes "last"

-- who sent the ERROR or the last datagram, who is silent, or who was not reached
abbrev pub role_in : Conclusion → Option End
role_in (Aborted stop before) = Some stop.role
role_in (Unreached role seconds u) = Some role
role_in (Silent role seconds frame) = Some role
role_in (Cut role frame) = Some role
role_in (Quiet role seconds frame) = Some role
role_in _ = None

abbrev pub code_in : Conclusion → Option ℕ
code_in (Aborted stop before) = Some stop.code
code_in (Unreached role seconds u) = Some u.code
code_in _ = None

abbrev pub message_in : Conclusion → Option (List ℕ)
message_in (Aborted stop before) = Some (message_text stop.message.items)
message_in (Unreached role seconds u) = Some (unreachable_text u)
message_in _ = None

-- that of the ERROR, of what tells that a datagram did not arrive, or of the last datagram
abbrev pub frame_in : Conclusion → Option ℕ
frame_in (Aborted stop before) = Some stop.frame
frame_in (Unreached role seconds u) = Some u.frame
frame_in (Silent role seconds frame) = Some frame
frame_in (Cut role frame) = Some frame
frame_in (Quiet role seconds frame) = Some frame
frame_in _ = None

abbrev pub seconds_in : Conclusion → Option ℕ
seconds_in (Unreached role seconds u) = Some seconds
seconds_in (Silent role seconds frame) = Some seconds
seconds_in (Cut role frame) = Some 0
seconds_in (Quiet role seconds frame) = Some seconds
seconds_in _ = None

abbrev pub is_before_in : Conclusion → Bool
is_before_in (Aborted stop before) = before
is_before_in _ = false

abbrev pub ended_json : Conclusion → Json
ended_json c = object_of (
    (codes "how", string (how_word c))
    ∷ (codes "role", text_or_null (option_map role_name (role_in c)))
    ∷ (codes "code", count_or_null (code_in c))
    ∷ (codes "message", text_or_null (message_in c))
    ∷ (codes "frame", count_or_null (frame_in c))
    ∷ (codes "seconds", count_or_null (seconds_in c))
    ∷ (codes "before_refusal", boolean (is_before_in c))
    ∷ [])

-- ---- how it went in time

abbrev pub repeats_json : Repeated → Json
repeats_json r = object_of ((codes "client", count_json r.client) ∷ (codes "server", count_json r.server) ∷ [])

abbrev pub silence_json : Option Silence → Json
silence_json None = null
silence_json (Some s) = object_of (
    (codes "nanoseconds", count_json s.nanoseconds)
    ∷ (codes "role", string (role_name s.role))
    ∷ (codes "frame", count_json s.frame)
    ∷ [])

abbrev pub times_json : Times → Json
times_json t = object_of (
    (codes "nanoseconds", count_or_null t.nanoseconds)
    ∷ (codes "bytes_per_second", count_or_null t.bytes_per_second)
    ∷ (codes "repeats", repeats_json t.repeats)
    ∷ (codes "silence", silence_json t.silence)
    ∷ [])

-- ---- a row

abbrev pub accused_json : Option Accused → Json
accused_json None = null
accused_json (Some a) = object_of (
    (codes "role", string (role_name a.role))
    ∷ (codes "host", string (host_text a.end.address))
    ∷ (codes "port", count_json a.end.port)
    ∷ [])

abbrev pub reason_json : Reason → Json
reason_json reason = string (reason_text reason)

-- the number that comes after block 65535
abbrev pub next_number : Rollover → ℕ
next_number Zero = 0
next_number One = 1

abbrev pub row_json : VerdictRow → Json
row_json r = object_of (
    (codes "file", string r.file.now)
    ∷ (codes "number", count_json r.number)
    ∷ (codes "place", string (place_name r.place))
    ∷ (codes "frame", count_or_null r.frame)
    ∷ (codes "verdict", string (string_bytes r.verdict))
    ∷ (codes "accused", accused_json r.charge.accused)
    ∷ (codes "doubts", array_of (map reason_json r.charge.reasons.items))
    ∷ (codes "ended", ended_json r.ended)
    ∷ (codes "stands", flag_or_null r.stands)
    ∷ (codes "times", times_json r.times)
    ∷ (codes "rollover", count_or_null (option_map next_number r.rollover))
    ∷ [])
