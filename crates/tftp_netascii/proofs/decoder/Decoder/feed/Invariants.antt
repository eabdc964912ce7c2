use Rattle.std.proofs.Common.{◌≡◌, ◌≤◌, ◌+◌, ◌++◌, false, length, vec_len, vec_capacity}
use Rattle.tftp_netascii.proofs.ReadsLemmas.{given, after}
use Rattle.tftp_netascii.proofs.decoder.Decoder.feed.Given as goal

-- what is written and what the rest gives is all that the piece gives
abbrev pub invariant-loop-run : goal.invariant-loop-run
invariant-loop-run l = record {
  room : vec_len l.out + length l.rest ≤ vec_capacity l.out;
  written : l.out.items ++ given false l.rest ≡ l.fn.out.items ++ given l.fn.self l.fn.piece;
  state : after false l.rest ≡ after l.fn.self l.fn.piece;
}

abbrev pub decreases-loop-run : goal.decreases-loop-run
decreases-loop-run l = length l.rest
