use Rattle.std.proofs.Common.{refl}
use Rattle.net_streams.proofs.StreamsLemmas.Gathering.{prefix_of, stops_now, writes_err, written_after}
use Rattle.net_streams.proofs.streams.line_writer.LineWriter.write.Goals as goal

pub returns-in_err-write_whole : goal.returns-in_err-write_whole
returns-in_err-write_whole g c =
    let stop = rw c.deref.ensures.value at c.in_err-write_whole.ensures in
    record {
      writes =
          rw (← c.self.view_is) (writes_err g.W.Write.contents _ _ c.from_residual.result c.args.bytes.now c.from_residual.ensures.0
          (stops_now g.W.Write.contents _ _ c.args.bytes.now (rw c.failed.ensures at c.if-failed.false) stop.tally (prefix_of _ _ _ c.args.bytes.now stop.writes)));
    }

pub returns : goal.returns
returns g c =
    let first = rw c.deref.ensures.value at c.in_ok-write_whole.ensures.writes in
    record { writes = rw (← c.self.view_is) (written_after g.W.Write.contents _ _ _ c.write_whole-2.result c.args.bytes.now (rw c.failed.ensures at c.if-failed.false) first c.write_whole-2.ensures.writes c.write_whole-2.ensures.tally refl) }
