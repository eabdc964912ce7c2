use Rattle.std.proofs.Common.{false, [], ◌∷◌, codes, filter, refl}
use Rattle.law_end.specs.{Rule}
use Rattle.law_model.specs.{PortRule}
use Rattle.audit_flows.specs.Transfers.{client, service}
use Rattle.audit_flows.specs.Transfers.Worked.{other_client, requests}
use Rattle.audit_spared.specs.Spared.Seen.{as_seen_by, at_client_of, is_with}
use Rattle.audit_spared.specs.Spared.{IsTimelyCapture, IsWholeCapture, FollowOneAnother, as_served, at_server_of}
use Rattle.audit_spared.specs.Spared.Worked.{back_in_time, back_in_time_there, late_ack, own_name, two_clients}
use Rattle.audit_spared.proofs.SparedLemmas.ClientEnd.{lawful_at}
use Rattle.audit_spared.proofs.SparedLemmas.ServedEnd.{served_lawful}
use Rattle.audit_spared.proofs.SparedLemmas.WorkedPremises.{at_two, follow_one, foreign_port, here_by, others_by, own_names, ports_by, served_by, whole_by, wrong_port}
use Rattle.audit_spared.proofs.SparedLemmas.WorkedCaptures.{back_lawful, back_there_lawful, other_lawful, other_there_lawful}
use Rattle.audit_spared.proofs.spared.worked.times_must_not_go_back.Goals as goal

pub returns-clause-captures : goal.returns-clause-captures
returns-clause-captures x c there = at_two (λ e. FollowOneAnother (IsWholeCapture own_name e) (filter (is_with e) (late_ack ∷ back_in_time))) client other_client c
    (follow_one (IsWholeCapture own_name client) (filter (is_with client) (late_ack ∷ back_in_time)) (filter (is_with client) (late_ack ∷ back_in_time)) refl (whole_by own_name client (filter (is_with client) (late_ack ∷ back_in_time)) back_lawful refl))
    (follow_one (IsWholeCapture own_name other_client) (filter (is_with other_client) (late_ack ∷ back_in_time)) (filter (is_with other_client) (late_ack ∷ back_in_time)) refl (whole_by own_name other_client (filter (is_with other_client) (late_ack ∷ back_in_time)) other_lawful refl)) there

pub returns-clause-captures_there : goal.returns-clause-captures_there
returns-clause-captures_there x c there = at_two (λ e. FollowOneAnother (IsTimelyCapture own_name e) (filter (is_with e) (late_ack ∷ back_in_time_there))) client other_client c
    (follow_one (IsTimelyCapture own_name client) (filter (is_with client) (late_ack ∷ back_in_time_there)) (filter (is_with client) (late_ack ∷ back_in_time_there)) refl (served_by own_name client (filter (is_with client) (late_ack ∷ back_in_time_there)) back_there_lawful refl refl))
    (follow_one (IsTimelyCapture own_name other_client) (filter (is_with other_client) (late_ack ∷ back_in_time_there)) (filter (is_with other_client) (late_ack ∷ back_in_time_there)) refl (served_by own_name other_client (filter (is_with other_client) (late_ack ∷ back_in_time_there)) other_there_lawful refl refl)) there

pub returns-clause-here : goal.returns-clause-here
returns-clause-here x = here_by service two_clients (late_ack ∷ back_in_time_there) refl

pub returns-clause-others : goal.returns-clause-others
returns-clause-others x = others_by two_clients (late_ack ∷ back_in_time) refl

pub returns-clause-others_there : goal.returns-clause-others_there
returns-clause-others_there x = others_by two_clients (late_ack ∷ back_in_time_there) refl

pub returns-clause-ports : goal.returns-clause-ports
returns-clause-ports x = ports_by two_clients refl

pub returns-clause-accused : goal.returns-clause-accused
returns-clause-accused x = record {
  transfer = record { number = 4; client = client; asked = service; writes = false; has_window = false };
  at = refl;
  rule = Rule.Port PortRule.Wrong;
  refused = wrong_port (at_client_of 69) (as_seen_by own_name client (requests 601 client service (codes "f")) ∷ []) (as_seen_by own_name client late_ack) (lawful_at own_name client (filter (is_with client) (late_ack ∷ back_in_time)) back_lawful).1.1.1.1 refl;
  doubtless = refl;
}

pub returns-clause-accused_there : goal.returns-clause-accused_there
returns-clause-accused_there x = record {
  transfer = record { number = 4; client = client; asked = service; writes = false; has_window = false };
  at = refl;
  rule = Rule.Port PortRule.Foreign;
  refused = foreign_port (at_server_of 69) (as_served own_name client (requests 601 client service (codes "f")) ∷ []) (as_served own_name client late_ack) (served_lawful own_name client (filter (is_with client) (late_ack ∷ back_in_time_there)) back_there_lawful).1.1.1.1 refl;
  doubtless = refl;
}

pub returns-clause-hosts : goal.returns-clause-hosts
returns-clause-hosts x = own_names
