use Rattle.std.proofs.Common.{◌+◌, ap}
use Rattle.net_streams.proofs.StreamsLemmas.Gathering.{adds_err}
use Rattle.tftp_capture.proofs.Spelling.{datagram_written}
use Rattle.tftp_capture.proofs.writer.CaptureWriter.put_parts.Goals as goal

pub returns-in_err-put_datagram-clause-adds : goal.returns-in_err-put_datagram-clause-adds
returns-in_err-put_datagram-clause-adds g c = adds_err g.W.Write.contents c.args.writer.now c.put_datagram.new.writer c.from_residual.result _ c.from_residual.ensures.0 c.in_err-put_datagram.ensures.adds

pub returns-clause-written : goal.returns-clause-written
returns-clause-written g c = λ start header datagrams h.
    datagram_written g.W.Write.contents start c.args.writer.now c.put_datagram.new.writer c.args.self.now header _ datagrams _ h c.in_ok-put_datagram.ensures.adds.2 (ap (λ n. n + 1) c.self.view_is)
