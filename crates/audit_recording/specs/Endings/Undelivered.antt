-- What ICMP tells of a transfer's last datagram.
use Rattle.std.specs.Prelude.{nat_lt, ℕ, Bool, false, Option, Some, None, if◌then◌else◌}
use Rattle.tftp_packet.specs.{End}
use Rattle.audit_recording.specs.Endings.Told.{sender_at}
use Rattle.audit_recording.specs.declared.blame.closing.Word.{Word}
use Rattle.audit_recording.specs.declared.blame.trail.Trail.{Trail}
use Rattle.audit_recording.specs.declared.blame.undelivered.Undelivered.{Undelivered}

-- an end sent a datagram behind that frame
abbrev pub is_behind : Option Word → ℕ → Bool
is_behind None frame = false
is_behind (Some word) frame = nat_lt frame word.frame

-- the datagram of which ICMP told last that it did not arrive, and the end that it was to reach, unless one of the two spoke since
abbrev pub undelivered_of : Trail → Option (End × Undelivered)
undelivered_of t = by t.undelivered where
  by : Option Undelivered → Option (End × Undelivered)
  by None = None
  by (Some u) = if is_behind t.closing.last u.frame then None else Some (sender_at t.transfer u.target, u)
