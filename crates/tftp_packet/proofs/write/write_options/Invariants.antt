use Rattle.std.proofs.Common.{◌≡◌, ◌++◌, take}
use Rattle.tftp_packet.specs.{strings, pair_strings, shown_entries, shown_pairs}
use Rattle.tftp_packet.proofs.write.write_options.Given as goal

-- the options so far are written
abbrev pub invariant-loop-entry : goal.invariant-loop-entry
invariant-loop-entry l = l.out.items ≡ l.fn.out.items ++ strings (pair_strings (shown_pairs (shown_entries (take l.entry-index l.entry-items))))
