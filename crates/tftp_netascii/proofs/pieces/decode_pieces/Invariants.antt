use Rattle.std.proofs.Common.{take}
use Rattle.std.specs.List.{flat_map}
use Rattle.tftp_netascii.specs.{StandsFor}
use Rattle.tftp_netascii.proofs.pieces.decode_pieces.Given as goal

-- the decoder stands for the pieces so far
abbrev pub invariant-loop-piece : goal.invariant-loop-piece
invariant-loop-piece l = StandsFor l.decoder (flat_map (λ piece. piece.now) (take l.piece-index l.pieces)) l.file.items
