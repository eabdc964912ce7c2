use Rattle.net_streams.proofs.StreamsLemmas.Gathering.{writes_then}
use Rattle.tftp_capture.proofs.Spelling.{text_written}
use Rattle.tftp_capture.proofs.writer.CaptureWriter.close.Goals as goal

pub returns-clause-writes : goal.returns-clause-writes
returns-clause-writes g c = rw c.self.view_is at c.finish.ensures.writes

pub returns-clause-written : goal.returns-clause-written
returns-clause-written g c = λ start header datagrams h.
    writes_then g.W.Write.contents c.args.writer.now c.finish.new.writer _ c.finish.result _ (λ all. text_written g.W.Write.contents start c.args.writer.now c.finish.new.writer c.args.self header datagrams h all) (rw c.self.view_is at c.finish.ensures.writes)
