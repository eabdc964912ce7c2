use Rattle.std.proofs.Common.{◌≡◌, ◌-◌, ◌<◌, ◌≤◌, ◌%◌, length, take}
use Rattle.std.proofs.Math.ListN.{get_or}
use Rattle.tftp_ends.specs.{is_noted, peers_of, rows_of}
use Rattle.tftp_ends.proofs.linked.is_linked.Given as goal

-- the peer is noted exactly if it is among those up to here, and the last of these is in its row
abbrev pub invariant-loop-at : goal.invariant-loop-at
invariant-loop-at l = record {
  low : l.at ≤ length l.links;
  there : 0 < l.at → get_or (rows_of (length l.latest) l.links) (l.at - 1) 0 ≡ l.mark % length l.latest;
  left : is_noted l.peer (peers_of l.links) ≡ is_noted l.peer (take l.at (peers_of l.links));
}

abbrev pub decreases-loop-at : goal.decreases-loop-at
decreases-loop-at l = l.at
