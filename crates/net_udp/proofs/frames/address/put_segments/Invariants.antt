use Rattle.std.proofs.Common.{◌≡◌, ◌+◌, ◌*◌, ◌≤◌, ◌∷◌, ◌++◌, length, get_or, take}
use Rattle.std.specs.Net.Text.{groups_text}
use Rattle.net_udp.proofs.frames.address.put_segments.Given as goal

-- the segments so far are written
abbrev pub invariant-loop-segment : goal.invariant-loop-segment
invariant-loop-segment l =
    (take l.end l.room ≡ take l.fn.place l.fn.room ++ groups_text (get_or l.segments 0 0 ∷ take l.segment-index l.rest))
    × (l.end ≤ l.fn.place + 4 + 5 * l.segment-index) × (length l.room ≡ length l.fn.room)
