use Rattle.std.proofs.Common.{◌++◌, refl}
use Rattle.net_streams.proofs.StreamsLemmas.Gathering.{adds_err, adds_more, stops_short}
use Rattle.tftp_commands.specs.Checked.{verdict_line}
use Rattle.tftp_commands.proofs.losses.check.put_further.Goals as goal

pub returns-in_err-put_verdict : goal.returns-in_err-put_verdict
returns-in_err-put_verdict g c = record {
  adds = adds_err g.W.Write.contents c.args.writer.now c.put_verdict.new.writer c.from_residual.result (verdict_line c.args.verdict ++ c.args.line.now) c.from_residual.ensures.0
      (stops_short g.W.Write.contents c.args.writer.now c.put_verdict.new.writer (verdict_line c.args.verdict) c.args.line.now (verdict_line c.args.verdict ++ c.args.line.now) refl c.in_err-put_verdict.ensures.adds);
}

pub returns : goal.returns
returns g c = record {
  adds = adds_more g.W.Write.contents c.args.writer.now c.put_verdict.new.writer c.add.new.self c.add.result (verdict_line c.args.verdict) c.args.line.now c.in_ok-put_verdict.ensures.adds c.add.ensures.adds;
}
