use Rattle.std.proofs.Common.{subst, List, ℕ, OnOk}
use Rattle.net_streams.specs.Streams.{Wrote}
use Rattle.audit_views.specs.Parties.{host_name}
use Rattle.audit_views.specs.Texts.{text_at}
use Rattle.audit_recording.specs.Session.Texts.{worded_in}
use Rattle.audit_recording.proofs.session.text.TextAt.write.Goals as goal

pub returns-clause-written : goal.returns-clause-written
returns-clause-written g c named carried key number file is =
    subst (λ (heading : List ℕ). OnOk c.write.result (Wrote g.W.Write.contents c.args.writer.now c.write.new.writer (text_at c.args.end host_name c.args.self.now.text.now.transfer heading (worded_in named carried))))
    is.heading (c.write.ensures.exact host_name (worded_in named carried) is.fed)
