use Rattle.std.proofs.Common.{◌≡◌, ◌++◌, List}
use Rattle.tftp_packet.specs.Hosts.{Datagram}
use Rattle.judge_pair.specs.Counts.{IsCountOf}
use Rattle.tftp_match.specs.Copies.{packets_to, passed_copies}
use Rattle.tftp_match.proofs.copies.add_from.Given as goal

-- what was added is what passed of the packets of the blocks so far
abbrev pub invariant-loop-block : goal.invariant-loop-block
invariant-loop-block l = (one other : List Datagram) → IsCountOf l.sender one → IsCountOf l.receiver other → l.copies.items ≡ l.fn.copies.items ++ passed_copies l.from one other (packets_to l.block)
