use Rattle.net_streams.proofs.StreamsLemmas.Gathering.{writes_then}
use Rattle.tftp_capture.proofs.Spelling.{hosts_written}
use Rattle.tftp_capture.proofs.host_writer.HostCaptureWriter.close.Goals as goal

pub returns-clause-writes : goal.returns-clause-writes
returns-clause-writes g c = rw c.self.view_is at c.finish.ensures.writes

pub returns-clause-written : goal.returns-clause-written
returns-clause-written g c = λ start header entries h.
    writes_then g.W.Write.contents c.args.writer.now c.finish.new.writer _ c.finish.result _ (λ all. hosts_written g.W.Write.contents start c.args.writer.now c.finish.new.writer c.args.self header entries h all) (rw c.self.view_is at c.finish.ensures.writes)
