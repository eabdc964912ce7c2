use Rattle.std.proofs.Common.{◌↔◌, length}
use Rattle.net_udp.specs.Frames.{IsSealed}
use Rattle.net_udp.specs.declared.frames.unread.UnreadHeader.{UnreadHeader}
use Rattle.net_udp.proofs.frames.unread.sealed_behind.Given as goal

-- what the type leads to is what is left of it leads to
abbrev pub invariant-tags : goal.invariant-tags
invariant-tags l = (u : UnreadHeader) → IsSealed l.kind l.after u ↔ IsSealed l.next l.rest u

abbrev pub decreases-tags : goal.decreases-tags
decreases-tags l = length l.rest
