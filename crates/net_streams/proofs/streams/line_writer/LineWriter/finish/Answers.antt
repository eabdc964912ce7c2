use Rattle.net_streams.proofs.StreamsLemmas.Gathering.{ends_written}
use Rattle.net_streams.proofs.streams.line_writer.LineWriter.finish.Goals as goal

pub returns : goal.returns
returns g c = record { ends = rw (← c.self.view_is, ← c.into_inner.ensures) at (ends_written g.W.Write.contents c.args.self c.flush-answer.new.self c.flush-answer.result c.flush-answer.ensures.writes) }
