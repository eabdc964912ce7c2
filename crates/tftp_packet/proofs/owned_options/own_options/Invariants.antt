use Rattle.std.proofs.Common.{◌≡◌, ◌++◌, List, length}
use Rattle.tftp_packet.specs.{Pair, shown_entries}
use Rattle.tftp_packet.proofs.OwnedMaps.{Stands}
use Rattle.tftp_packet.proofs.owned_options.own_options.Given as goal

-- the entries are the options that came so far
abbrev pub invariant-loop-name : goal.invariant-loop-name
invariant-loop-name l = (front : List Pair) × (front ++ l.pairs ≡ l.view) × Stands (shown_entries l.entries.items) front

abbrev pub decreases-loop-name : goal.decreases-loop-name
decreases-loop-name l = length l.pairs
