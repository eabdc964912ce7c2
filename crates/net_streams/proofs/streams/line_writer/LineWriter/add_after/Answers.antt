use Rattle.std.proofs.Common.{[], refl}
use Rattle.net_streams.proofs.StreamsLemmas.Gathering.{adds_err, adds_more, stops_short, writes_adds, wrote_added}
use Rattle.net_streams.proofs.streams.line_writer.LineWriter.add_after.Goals as goal

pub returns-in_err-flush : goal.returns-in_err-flush
returns-in_err-flush g c =
    let stop = c.in_err-flush.ensures.writes in
    record { adds = adds_err g.W.Write.contents c.args.self.now c.flush.new.self c.from_residual.result _ c.from_residual.ensures.0 (stops_short g.W.Write.contents c.args.self.now c.flush.new.self [] c.args.bytes.now c.args.bytes.now refl stop) }

pub returns : goal.returns
returns g c =
    let wrote = c.in_ok-flush.ensures.writes in
    let more = rw c.if-push.ensures at c.write.ensures.writes in
    record {
      adds = adds_more g.W.Write.contents c.args.self.now c.flush.new.self c.write.new.self c.write.result [] c.args.bytes.now (wrote_added g.W.Write.contents c.args.self.now c.flush.new.self [] wrote) (writes_adds g.W.Write.contents c.flush.new.self c.write.new.self c.write.result c.args.bytes.now more);
    }
