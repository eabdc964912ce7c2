use Rattle.std.proofs.Common.{[]}
use Rattle.net_streams.proofs.StreamsLemmas.Gathering.{adds_err, writes_adds, writes_empty, writes_flushed}
use Rattle.tftp_commands.proofs.show.show_datagram.Goals as goal

pub returns-in_err-put_datagram-clause-adds : goal.returns-in_err-put_datagram-clause-adds
returns-in_err-put_datagram-clause-adds g c =
    let put = c.in_err-put_datagram.ensures.adds in
    (put.0, put.1, adds_err g.W.Write.contents c.args.writer.now c.put_datagram.new.writer c.from_residual.result _ c.from_residual.ensures.0 put.2)

pub returns-then-wait-clause-adds : goal.returns-then-wait-clause-adds
returns-then-wait-clause-adds g c =
    let put = c.in_ok-put_datagram.ensures.adds in
    let written = writes_flushed g.W.Write.contents c.args.writer.now c.put_datagram.new.writer c.flush.new.self c.flush.result _ put.2 c.flush.ensures.writes in
    (put.0, put.1, writes_adds g.W.Write.contents c.args.writer.now c.flush.new.self c.flush.result _ written)

pub returns-then-wait-clause-early : goal.returns-then-wait-clause-early
returns-then-wait-clause-early g c = λ _. writes_empty g.W.Write.contents c.put_datagram.new.writer c.flush.new.self c.flush.result [] c.flush.ensures.writes
