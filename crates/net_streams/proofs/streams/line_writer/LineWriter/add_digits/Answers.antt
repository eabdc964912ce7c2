use Rattle.std.proofs.Common.{[], refl}
use Rattle.hex.specs.Hex.{encode_lower}
use Rattle.net_streams.proofs.StreamsLemmas.Gathering.{adds_err, adds_more, stops_short, writes_adds, wrote_added}
use Rattle.net_streams.proofs.streams.line_writer.LineWriter.add_digits.Goals as goal

pub returns-in_err-flush : goal.returns-in_err-flush
returns-in_err-flush g c =
    let stop = rw c.if-push_digits.ensures at c.in_err-flush.ensures.writes in
    let digits = encode_lower c.args.bytes.now in
    record { adds = adds_err g.W.Write.contents c.args.self.now c.flush.new.self c.from_residual.result _ c.from_residual.ensures.0 (stops_short g.W.Write.contents c.args.self.now c.flush.new.self [] digits digits refl stop) }

pub returns : goal.returns
returns g c =
    let wrote = rw c.if-push_digits.ensures at c.in_ok-flush.ensures.writes in
    let digits = encode_lower c.args.bytes.now in
    let more = rw c.if-push_digits-2.ensures at c.write_digits.ensures.writes in
    record {
      adds = adds_more g.W.Write.contents c.args.self.now c.flush.new.self c.write_digits.new.self c.write_digits.result [] digits (wrote_added g.W.Write.contents c.args.self.now c.flush.new.self [] wrote) (writes_adds g.W.Write.contents c.flush.new.self c.write_digits.new.self c.write_digits.result digits more);
    }
