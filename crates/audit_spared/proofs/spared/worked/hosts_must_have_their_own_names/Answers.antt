use Rattle.audit_spared.proofs.SparedLemmas.WorkedNames.{other_error_refused}
use Rattle.std.proofs.Common.{false, [], ◌∷◌, codes, filter, refl}
use Rattle.law_end.specs.{Rule}
use Rattle.law_model.specs.{PortRule}
use Rattle.audit_flows.specs.Transfers.{client, service}
use Rattle.audit_flows.specs.Transfers.Worked.{at, requests}
use Rattle.audit_spared.specs.Spared.Seen.{as_seen_by, at_client_of, is_with}
use Rattle.audit_spared.specs.Spared.{FollowOneAnother, IsWholeCapture, IsTimelyCapture}
use Rattle.audit_spared.specs.Spared.Worked.{one_client, one_name, other_error, refused_elsewhere, to_second_host, told_by_namesake}
use Rattle.audit_spared.proofs.SparedLemmas.ClientEnd.{lawful_at}
use Rattle.audit_spared.proofs.SparedLemmas.WorkedPremises.{at_one, follow_one, order_by, others_by, ports_by, whole_by, wrong_port, served_by, here_by}
use Rattle.audit_spared.proofs.SparedLemmas.WorkedCaptures.{two_hosts_lawful, stopped_there_lawful}
use Rattle.audit_spared.proofs.spared.worked.hosts_must_have_their_own_names.Goals as goal

pub returns-clause-captures : goal.returns-clause-captures
returns-clause-captures x c there = at_one (λ e. FollowOneAnother (IsWholeCapture one_name e) (filter (is_with e) (to_second_host ∷ refused_elsewhere))) client c
    (follow_one (IsWholeCapture one_name client) (filter (is_with client) (to_second_host ∷ refused_elsewhere)) (filter (is_with client) (to_second_host ∷ refused_elsewhere)) refl (whole_by one_name client (filter (is_with client) (to_second_host ∷ refused_elsewhere)) two_hosts_lawful refl)) there

pub returns-clause-others : goal.returns-clause-others
returns-clause-others x = others_by one_client (to_second_host ∷ refused_elsewhere) refl

pub returns-clause-ports : goal.returns-clause-ports
returns-clause-ports x = ports_by one_client refl

pub returns-clause-order : goal.returns-clause-order
returns-clause-order x = order_by (to_second_host ∷ refused_elsewhere) refl

pub returns-clause-accused : goal.returns-clause-accused
returns-clause-accused x = record {
  transfer = record { number = 3; client = client; asked = at 2 69; writes = false; has_window = false };
  at = refl;
  rule = Rule.Port PortRule.Wrong;
  refused = wrong_port (at_client_of 69) (as_seen_by one_name client (requests 2 client (at 2 69) (codes "f")) ∷ []) (as_seen_by one_name client to_second_host) (lawful_at one_name client (filter (is_with client) (to_second_host ∷ refused_elsewhere)) two_hosts_lawful).1.1.1.1 refl;
  doubtless = refl;
}

pub returns-clause-captures_there : goal.returns-clause-captures_there
returns-clause-captures_there x c there = at_one (λ e. FollowOneAnother (IsTimelyCapture one_name e) (filter (is_with e) (other_error ∷ told_by_namesake))) client c
    (follow_one (IsTimelyCapture one_name client) (filter (is_with client) (other_error ∷ told_by_namesake)) (filter (is_with client) (other_error ∷ told_by_namesake)) refl
    (served_by one_name client (filter (is_with client) (other_error ∷ told_by_namesake)) stopped_there_lawful refl refl)) there

pub returns-clause-here : goal.returns-clause-here
returns-clause-here x = here_by service one_client (other_error ∷ told_by_namesake) refl

pub returns-clause-others_there : goal.returns-clause-others_there
returns-clause-others_there x = others_by one_client (other_error ∷ told_by_namesake) refl

pub returns-clause-order_there : goal.returns-clause-order_there
returns-clause-order_there x = order_by (other_error ∷ told_by_namesake) refl

pub returns-clause-accused_there : goal.returns-clause-accused_there
returns-clause-accused_there x = record {
  transfer = record { number = 0; client = client; asked = service; writes = false; has_window = false };
  at = refl;
  rule = Rule.AfterError;
  refused = other_error_refused;
  doubtless = refl;
}
