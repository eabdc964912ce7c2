use Rattle.std.proofs.Common.{refl}
use Rattle.net_streams.proofs.StreamsLemmas.Gathering.{adds_then}
use Rattle.tftp_capture.proofs.Spelling.{comment_written}
use Rattle.tftp_capture.proofs.host_writer.HostCaptureWriter.comment.Goals as goal

pub returns-clause-written : goal.returns-clause-written
returns-clause-written g c = λ start header entries h.
    adds_then g.W.Write.contents c.args.writer.now c.add_all.new.self _ c.add_all.result _ (λ more. comment_written g.W.Write.contents start c.args.writer.now c.add_all.new.self c.args.self.now header _ entries _ h more.2 refl) c.add_all.ensures.adds
