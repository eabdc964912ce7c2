use Rattle.std.proofs.Common.{◌↔◌, length}
use Rattle.net_udp.specs.Frames.{Reached, ReachesOver}
use Rattle.net_udp.proofs.frames.extension.skip_extensions.Given as goal

-- what is reached over all headers is reached over those that are left
abbrev pub invariant-headers : goal.invariant-headers
invariant-headers l = (r : Reached) → ReachesOver l.next l.bytes r ↔ ReachesOver l.kind l.rest r

abbrev pub decreases-headers : goal.decreases-headers
decreases-headers l = length l.rest
