use Rattle.net_streams.proofs.StreamsLemmas.Gathering.{adds_err, pieces_failed, pieces_gathered, stops_now}
use Rattle.net_streams.proofs.streams.line_writer.LineWriter.add_all.Goals as goal

pub returns-in_err-add : goal.returns-in_err-add
returns-in_err-add g c =
    let before = c.loop-piece.invariant in
    let stop = c.in_err-add.ensures.adds in
    record {
      adds =
          adds_err g.W.Write.contents c.args.self.now c.add.new.self c.from_residual.result _ c.from_residual.ensures.0
          (stops_now g.W.Write.contents c.args.self.now c.add.new.self _ before.0 stop.failed
          (pieces_failed (λ piece. piece.now) c.args.pieces.now c.loop-piece.piece-index _ _ _ _ _ _ c.loop-piece-test.true before.2 (stop.part before.1)));
    }

pub loop-piece-preserved : goal.loop-piece-preserved
loop-piece-preserved g c =
    let before = c.loop-piece.invariant in
    let more = c.in_ok-add.ensures.adds in
    (before.0, more.1, pieces_gathered (λ piece. piece.now) c.args.pieces.now c.loop-piece.piece-index _ _ _ _ _ _ _ c.loop-piece-test.true before.2 more.2)
