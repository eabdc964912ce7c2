-- Datagrams of a recording that came in every second frame.
use Rattle.std.specs.Prelude.{ℕ, ◌+◌, ◌*◌, false, List, [], ◌∷◌, length, Option, Some, None}
use Rattle.net_udp.specs.declared.frames.checksum.Checksum.{Checksum}
use Rattle.net_udp.specs.declared.frames.checksum.Checksum.TheVariants.{Right}
use Rattle.audit_flows.specs.Lines.{Recorded}
use Rattle.audit_recording.specs.Blame.Frames.{Carried, Framed}

abbrev pub in_even_frames : List Recorded → List Carried
in_even_frames [] = []
in_even_frames (d ∷ older) =
    record { frame = 2 + 2 * length older; time = Some d.time; is_doubtful = false; has_error = false; checksum = Right; datagram = d } ∷ in_even_frames older

-- the same with these checksums
abbrev pub with_checksums : List Checksum → List Carried → List Carried
with_checksums (checksum ∷ checksums) (c ∷ older) = record c { checksum = checksum } ∷ with_checksums checksums older
with_checksums _ carried = carried

abbrev pub frame_of : Option Framed → Option ℕ
frame_of None = None
frame_of (Some f) = Some f.carried.frame
