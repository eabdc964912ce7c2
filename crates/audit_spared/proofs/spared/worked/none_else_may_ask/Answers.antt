use Rattle.std.proofs.Common.{false, [], ◌∷◌, codes, filter, refl}
use Rattle.law_end.specs.{Rule}
use Rattle.law_model.specs.{PortRule}
use Rattle.audit_flows.specs.Transfers.{client, service}
use Rattle.audit_flows.specs.Transfers.Worked.{requests}
use Rattle.audit_spared.specs.Spared.Seen.{as_seen_by, at_client_of, is_with}
use Rattle.audit_spared.specs.Spared.{IsTimelyCapture, IsWholeCapture, FollowOneAnother, as_served, at_server_of}
use Rattle.audit_spared.specs.Spared.Worked.{ack_of_block, one_client, own_name, served_by_asker}
use Rattle.audit_spared.proofs.SparedLemmas.ClientEnd.{lawful_at}
use Rattle.audit_spared.proofs.SparedLemmas.ServedEnd.{served_lawful}
use Rattle.audit_spared.proofs.SparedLemmas.WorkedPremises.{at_one, follow_one, foreign_port, here_by, order_by, own_names, ports_by, served_by, whole_by, wrong_port}
use Rattle.audit_spared.proofs.SparedLemmas.WorkedCaptures.{plain_lawful, plain_there_lawful}
use Rattle.audit_spared.proofs.spared.worked.none_else_may_ask.Goals as goal

pub returns-clause-captures : goal.returns-clause-captures
returns-clause-captures x c there = at_one (λ e. FollowOneAnother (IsWholeCapture own_name e) (filter (is_with e) (ack_of_block ∷ served_by_asker))) client c
    (follow_one (IsWholeCapture own_name client) (filter (is_with client) (ack_of_block ∷ served_by_asker)) (filter (is_with client) (ack_of_block ∷ served_by_asker)) refl (whole_by own_name client (filter (is_with client) (ack_of_block ∷ served_by_asker)) plain_lawful refl)) there

pub returns-clause-captures_there : goal.returns-clause-captures_there
returns-clause-captures_there x c there = at_one (λ e. FollowOneAnother (IsTimelyCapture own_name e) (filter (is_with e) (ack_of_block ∷ served_by_asker))) client c
    (follow_one (IsTimelyCapture own_name client) (filter (is_with client) (ack_of_block ∷ served_by_asker)) (filter (is_with client) (ack_of_block ∷ served_by_asker)) refl (served_by own_name client (filter (is_with client) (ack_of_block ∷ served_by_asker)) plain_there_lawful refl refl)) there

pub returns-clause-here : goal.returns-clause-here
returns-clause-here x = here_by service one_client (ack_of_block ∷ served_by_asker) refl

pub returns-clause-ports : goal.returns-clause-ports
returns-clause-ports x = ports_by one_client refl

pub returns-clause-order : goal.returns-clause-order
returns-clause-order x = order_by (ack_of_block ∷ served_by_asker) refl

pub returns-clause-accused : goal.returns-clause-accused
returns-clause-accused x = record {
  transfer = record { number = 1; client = client; asked = service; writes = false; has_window = false };
  at = refl;
  rule = Rule.Port PortRule.Wrong;
  refused = wrong_port (at_client_of 69) (as_seen_by own_name client (requests 1 client service (codes "f")) ∷ []) (as_seen_by own_name client ack_of_block) (lawful_at own_name client (filter (is_with client) (ack_of_block ∷ served_by_asker)) plain_lawful).1.1 refl;
  doubtless = refl;
}

pub returns-clause-accused_there : goal.returns-clause-accused_there
returns-clause-accused_there x = record {
  transfer = record { number = 1; client = client; asked = service; writes = false; has_window = false };
  at = refl;
  rule = Rule.Port PortRule.Foreign;
  refused = foreign_port (at_server_of 69) (as_served own_name client (requests 1 client service (codes "f")) ∷ []) (as_served own_name client ack_of_block) (served_lawful own_name client (filter (is_with client) (ack_of_block ∷ served_by_asker)) plain_there_lawful).1.1 refl;
  doubtless = refl;
}

pub returns-clause-hosts : goal.returns-clause-hosts
returns-clause-hosts x = own_names
