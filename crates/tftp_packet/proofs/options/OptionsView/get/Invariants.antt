use Rattle.std.proofs.Common.{◌≡◌, length}
use Rattle.tftp_packet.specs.{lower, pairs_of, text_of}
use Rattle.tftp_packet.proofs.options.OptionsView.get.Given as goal

-- the value is that of the name in what is left
abbrev pub invariant-loop-other : goal.invariant-loop-other
invariant-loop-other l = text_of (pairs_of l.rest) (lower l.name) ≡ text_of l.self (lower l.name)

abbrev pub decreases-loop-other : goal.decreases-loop-other
decreases-loop-other l = length l.rest
