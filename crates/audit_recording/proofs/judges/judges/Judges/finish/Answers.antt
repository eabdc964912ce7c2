use Rattle.std.proofs.Common.{sym, subst}
use Rattle.audit_views.specs.Parties.{host_name}
use Rattle.audit_recording.specs.Judges.{AreJudgesAfter, Judges}
use Rattle.audit_recording.proofs.judges.judges.Judges.finish.Goals as goal

pub returns-clause-client : goal.returns-clause-client
returns-clause-client g c rollover x name whole after =
    let all : AreJudgesAfter rollover (record { client = c.self.inside.client; server = c.self.inside.server; between = c.self.inside.between; failed = c.self.inside.failed }) x name whole =
    subst (λ (j : Judges). AreJudgesAfter rollover j x name whole) (sym c.self.view_is) after in
    c.said_at_client.ensures.found rollover x name whole all.works all.client

pub returns-clause-server : goal.returns-clause-server
returns-clause-server g c rollover x name whole after =
    let all : AreJudgesAfter rollover (record { client = c.self.inside.client; server = c.self.inside.server; between = c.self.inside.between; failed = c.self.inside.failed }) x name whole =
    subst (λ (j : Judges). AreJudgesAfter rollover j x name whole) (sym c.self.view_is) after in
    c.said_at_server.ensures.found rollover x name whole all.works all.server

pub returns-clause-between : goal.returns-clause-between
returns-clause-between g c rollover x whole after apart =
    let all : AreJudgesAfter rollover (record { client = c.self.inside.client; server = c.self.inside.server; between = c.self.inside.between; failed = c.self.inside.failed }) x host_name whole =
    subst (λ (j : Judges). AreJudgesAfter rollover j x host_name whole) (sym c.self.view_is) after in
    c.said_between.ensures.found rollover x whole all.works all.between apart

pub returns-clause-to_itself : goal.returns-clause-to_itself
returns-clause-to_itself g c rollover x whole after itself =
    let all : AreJudgesAfter rollover (record { client = c.self.inside.client; server = c.self.inside.server; between = c.self.inside.between; failed = c.self.inside.failed }) x host_name whole =
    subst (λ (j : Judges). AreJudgesAfter rollover j x host_name whole) (sym c.self.view_is) after in
    c.said_between.ensures.to_itself rollover x whole all.works all.between itself
