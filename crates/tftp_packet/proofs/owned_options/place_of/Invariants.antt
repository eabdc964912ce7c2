use Rattle.std.proofs.Common.{◌≡◌, ◌+◌, drop}
use Rattle.tftp_packet.specs.{shown_entries, place}
use Rattle.tftp_packet.proofs.owned_options.place_of.Given as goal

-- the names so far stand before this one
abbrev pub invariant-loop-entry : goal.invariant-loop-entry
invariant-loop-entry l = (l.at ≡ l.entry-index) × (l.at + place l.name (drop l.at (shown_entries l.entries)) ≡ place l.name (shown_entries l.entries))
