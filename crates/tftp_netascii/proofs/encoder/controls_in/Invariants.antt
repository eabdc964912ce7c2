use Rattle.std.proofs.Common.{◌≡◌, ◌==◌, ◌||◌, take}
use Rattle.std.specs.List.{count_by}
use Rattle.tftp_netascii.specs.{lf, cr}
use Rattle.tftp_netascii.proofs.encoder.controls_in.Given as goal

-- those among the bytes so far
abbrev pub invariant-loop-byte : goal.invariant-loop-byte
invariant-loop-byte l = l.count ≡ count_by (λ byte. byte == lf || byte == cr) (take l.byte-index l.piece)
