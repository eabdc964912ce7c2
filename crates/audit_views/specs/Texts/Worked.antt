-- The text of a worked recording: a client asks twice, a stranger sends it a block, and the server's block is acknowledged.
use Rattle.std.specs.Prelude.{◌+◌, ◌++◌, List, [], ◌∷◌, codes, decimal, length}
use Rattle.tftp_packet.specs.{In, Out}
use Rattle.tftp_capture.specs.{Entry}
use Rattle.tftp_capture.specs.Commented.Entry.{Comment, Passed}
use Rattle.audit_flows.specs.Lines.{Placed}
use Rattle.audit_flows.specs.Transfers.{ack_of, data_of, read_of}
use Rattle.audit_views.specs.Texts.Comments.{Worded}

-- each datagram in the frame of its number, from 1, which its comment names
abbrev pub in_frames : List Placed → List Worded
in_frames [] = []
in_frames (p ∷ older) = record { placed = p; words = codes "frame " ++ decimal (length older + 1) } ∷ in_frames older

-- the server has not seen the stranger's block, in frame 4
abbrev pub asked_twice_entries : List Entry
asked_twice_entries =
    Comment (codes "frame 1") ∷ Passed (record { dir = In; local = 69; host = 192 ∷ 0 ∷ 2 ∷ 7 ∷ []; remote = 40000; payload = read_of (codes "f") })
    ∷ Comment (codes "frame 2") ∷ Passed (record { dir = In; local = 69; host = 192 ∷ 0 ∷ 2 ∷ 7 ∷ []; remote = 40000; payload = read_of (codes "f") })
    ∷ Comment (codes "frame 3") ∷ Passed (record { dir = Out; local = 41000; host = 192 ∷ 0 ∷ 2 ∷ 7 ∷ []; remote = 40000; payload = data_of 1 })
    ∷ Comment (codes "frame 5") ∷ Passed (record { dir = In; local = 41000; host = 192 ∷ 0 ∷ 2 ∷ 7 ∷ []; remote = 40000; payload = ack_of 1 })
    ∷ []
