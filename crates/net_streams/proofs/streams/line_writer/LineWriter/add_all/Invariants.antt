use Rattle.std.proofs.Common.{take, flat_map}
use Rattle.net_streams.specs.Streams.{Added}
use Rattle.net_streams.proofs.streams.line_writer.LineWriter.add_all.Given as goal

abbrev pub invariant-loop-piece : goal.invariant-loop-piece
invariant-loop-piece g l = Added g.W.Write.contents l.initial.self l.self (flat_map (λ piece. piece.now) (take l.piece-index l.pieces))
