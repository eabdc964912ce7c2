use Rattle.std.proofs.Common.{ap, ◌∙◌, sym, subst}
use Rattle.audit_views.specs.Views.{server_capture, server_header, HasJudgedBy, Server}
use Rattle.audit_views.proofs.views.server.ServerJudge.finish.Goals as goal

pub returns-clause-memory : goal.returns-clause-memory
returns-clause-memory g c rollover name whole part count after none is =
    let x = c.args.self.transfer in
    c.finish.ensures.memory rollover (server_header x) (server_capture name x whole part) count
    (subst (λ (s : Server). HasJudgedBy rollover s.end.judge (server_header x) (server_capture name x whole part)) (sym c.self.view_is) after.judged)
    (ap (λ (s : Server). s.end.judge.refused) c.self.view_is ∙ none) is
