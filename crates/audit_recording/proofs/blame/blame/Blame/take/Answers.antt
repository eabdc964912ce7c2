use Rattle.std.proofs.Common.{◌∷◌, ap, is_some, subst, sym, ◌∙◌}
use Rattle.audit_recording.specs.Judges.Kept.{BetweenStands, ClientStands, ServerStands}
use Rattle.audit_recording.specs.Judges.{rollover_of}
use Rattle.audit_views.specs.Parties.{host_name}
use Rattle.audit_recording.proofs.blame.blame.Blame.take.Goals as goal

pub returns-clause-ends : goal.returns-clause-ends
returns-clause-ends c judging x f whole frames are is about own ends all watching = record {
  client = λ there. c.in_ok-take_client.ensures (rollover_of judging) x f whole frames (ap is_some c.client.ensures ∙ watching.points.client ∙ there) (are.client there) is about own ends all
      (subst (λ j. ClientStands (rollover_of judging) j x host_name (f.placed ∷ whole)) (sym c.client.ensures) watching.judges.client);
  server = λ there. c.in_ok-take_server.ensures (rollover_of judging) x f whole frames (ap is_some c.server.ensures ∙ watching.points.server ∙ there) (are.server there) is about own ends all
      (subst (λ j. ServerStands (rollover_of judging) j x host_name (f.placed ∷ whole)) (sym c.server.ensures) watching.judges.server);
}

pub returns-clause-between : goal.returns-clause-between
returns-clause-between c judging x f whole frames are is about own ends all watching there =
    c.in_ok-take_between.ensures (rollover_of judging) x f whole frames (ap is_some c.between.ensures ∙ watching.points.between ∙ there) (are there) is about own ends all
    (subst (λ j. BetweenStands (rollover_of judging) j x host_name (f.placed ∷ whole)) (sym c.between.ensures) watching.judges.between)
