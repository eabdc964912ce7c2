-- How long a transfer took, and the words for that.
use Rattle.std.specs.Prelude.{◌≡◌, ◌*◌, ◌-◌, ◌/◌, ◌%◌, ◌^◌, ◌==◌, ◌++◌, nat_le, min, ℕ, List, [], Option, Some, None, option_map, codes, decimal, if◌then◌else◌}
use Rattle.tftp_packet.specs.{Client, Server}
use Rattle.audit_flows.specs.{Transfer}
use Rattle.audit_recording.specs.Blame.Frames.{Carried, Framed, view_of}
use Rattle.audit_recording.specs.Endings.Pace.{began, longest, repeats}
use Rattle.audit_recording.specs.Endings.Told.{last_word}
use Rattle.audit_recording.specs.declared.blame.closing.Word.{Word}
use Rattle.audit_recording.specs.declared.blame.pace.Silence.{Silence}
use Rattle.audit_recording.specs.declared.rows.row.Point.TheVariants as point
use Rattle.tftp_rows.specs.Endings.{role_name}
use Rattle.tftp_rows.specs.declared.times.Repeated.{Repeated}
use Rattle.tftp_rows.specs.declared.times.Times.{Times}

-- a second, after which an end sends again at the earliest, where one is agreed on (RFC 2349), in nanoseconds
abbrev pub second : ℕ
second = 1000000000

-- ---- what is told

-- from the first time to that of the last datagram, where both are told
abbrev pub lasted : Option ℕ → Option Word → Option ℕ
lasted (Some first) (Some word) = option_map (λ time. time - first) word.time
lasted _ _ = None

-- so many bytes a second, of which 64 bits count the dividend
abbrev pub rate : Option ℕ → Option ℕ → Option ℕ
rate (Some bytes) (Some nanoseconds) = if nanoseconds == 0 then None else Some (min (bytes * second) (2 ^ 64 - 1) / nanoseconds)
rate _ _ = None

-- They tell how the transfer went by what passed at its client, and of so many bytes, where it is accepted.
pub record AreTimesIn (t : Times) (x : Transfer) (bytes : Option ℕ) (view : List Framed) : Type 0 where
  pub nanoseconds : t.nanoseconds ≡ lasted (began x view) (last_word x view)
  pub bytes_per_second : t.bytes_per_second ≡ rate bytes t.nanoseconds
  pub repeats_of_client : t.repeats.client ≡ repeats x Client view
  pub repeats_of_server : t.repeats.server ≡ repeats x Server view
  pub silence : t.silence ≡ longest x view

abbrev pub AreTimesOf : Times → Transfer → Option ℕ → List ℕ → List Carried → Type 0
AreTimesOf t x bytes named carried = AreTimesIn t x bytes (view_of point.Client x.number named carried)

-- ---- the words

abbrev pub milliseconds_text : ℕ → List ℕ
milliseconds_text ms = decimal (ms / 1000) ++ codes "." ++ decimal (ms / 100 % 10) ++ decimal (ms / 10 % 10) ++ decimal (ms % 10)

-- nanoseconds as seconds, with three digits behind the point
unfoldable pub seconds_text : ℕ → List ℕ
seconds_text nanoseconds = milliseconds_text (nanoseconds / 1000000)

-- what each end sent again
abbrev pub repeats_text : Repeated → List ℕ
repeats_text r = codes ", sent again: " ++ decimal r.client ++ codes " of the client, " ++ decimal r.server ++ codes " of the server"

-- how long it took, and the longest silence
abbrev pub silence_text : ℕ → Silence → List ℕ
silence_text nanoseconds s = codes "; took " ++ seconds_text nanoseconds ++ codes " s, the " ++ role_name s.role ++ codes " silent for " ++ seconds_text s.nanoseconds ++ codes " s before frame " ++ decimal s.frame

abbrev pub slow_words : Times → ℕ → Silence → List ℕ
slow_words t nanoseconds s = silence_text nanoseconds s ++ repeats_text t.repeats

-- that, where nothing passed for a second
abbrev pub slow_text : Times → List ℕ
slow_text t = by t.nanoseconds t.silence where
  by : Option ℕ → Option Silence → List ℕ
  by (Some nanoseconds) (Some s) = if nat_le second s.nanoseconds then slow_words t nanoseconds s else []
  by _ _ = []
