use Rattle.std.proofs.Common.{◌∙◌}
use Rattle.net_streams.proofs.StreamsLemmas.Gathering.{writes_err, writes_flushed}
use Rattle.tftp_capture.proofs.writer.finish.Goals as goal

pub returns-in_err-add_all : goal.returns-in_err-add_all
returns-in_err-add_all g c =
    let told = rw (c.as_bytes-number.ensures.value ∙ c.format.ensures.text) at c.in_err-add_all.ensures.adds in
    record { writes = writes_err g.W.Write.contents c.args.writer.now c.add_all.new.self c.from_residual.result _ c.from_residual.ensures.0 told }

pub returns : goal.returns
returns g c =
    let total = rw (c.as_bytes-number.ensures.value ∙ c.format.ensures.text) at c.in_ok-add_all.ensures.adds in
    record { writes = writes_flushed g.W.Write.contents c.args.writer.now c.add_all.new.self c.flush.new.self c.flush.result _ total c.flush.ensures.writes }
