use Rattle.std.proofs.Common.{◌↔◌, length}
use Rattle.net_udp.specs.Frames.{IsUnreadOver}
use Rattle.net_udp.specs.declared.frames.unread.UnreadHeader.{UnreadHeader}
use Rattle.net_udp.proofs.frames.unread.unread_over.Given as goal

-- what stands over all headers stands over those that are left
abbrev pub invariant-headers : goal.invariant-headers
invariant-headers l = (u : UnreadHeader) → IsUnreadOver l.next l.bytes u ↔ IsUnreadOver l.kind l.rest u

abbrev pub decreases-headers : goal.decreases-headers
decreases-headers l = length l.rest
