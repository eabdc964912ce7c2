use Rattle.std.proofs.Common.{◌≡◌, ◌≤◌, ◌+◌, ◌*◌, length}
use Rattle.net_udp.specs.Frames.{word_sum}
use Rattle.net_udp.proofs.frames.checksum.word_sum.Given as goal

-- what was summed up and what is left are all words, and each byte that was passed is of a word below 65,536
abbrev pub invariant-words : goal.invariant-words
invariant-words l = (l.sum + word_sum l.rest ≡ word_sum l.bytes) × (l.sum + 65535 * length l.rest ≤ 65535 * length l.bytes)

abbrev pub decreases-words : goal.decreases-words
decreases-words l = length l.rest
