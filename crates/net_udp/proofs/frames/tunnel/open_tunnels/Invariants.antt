use Rattle.std.proofs.Common.{◌↔◌, length}
use Rattle.net_udp.specs.Frames.{Linked, LeadsIn, linked}
use Rattle.net_udp.proofs.frames.tunnel.open_tunnels.Given as goal

-- what leads in from the frame leads in from what was opened so far
abbrev pub invariant-tunnels : goal.invariant-tunnels
invariant-tunnels l = (c : Linked) → LeadsIn (linked l.carried) c ↔ LeadsIn (linked l.inner) c

abbrev pub decreases-tunnels : goal.decreases-tunnels
decreases-tunnels l = length l.inner.content.now
