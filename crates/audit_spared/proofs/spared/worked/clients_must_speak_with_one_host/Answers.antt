use Rattle.std.proofs.Common.{false, [], ◌∷◌, codes, filter, refl}
use Rattle.law_end.specs.{Rule}
use Rattle.law_model.specs.{PortRule}
use Rattle.audit_flows.specs.Transfers.{client}
use Rattle.audit_flows.specs.Transfers.Worked.{at, requests}
use Rattle.audit_spared.specs.Spared.Seen.{is_with}
use Rattle.audit_spared.specs.Spared.{IsTimelyCapture, FollowOneAnother, as_served, at_server_of}
use Rattle.audit_spared.specs.Spared.Worked.{asks_two_hosts, one_client, own_name, to_second_host}
use Rattle.audit_spared.proofs.SparedLemmas.ServedEnd.{served_lawful}
use Rattle.audit_spared.proofs.SparedLemmas.WorkedPremises.{at_one, follow_one, foreign_port, order_by, others_by, own_names, ports_by, served_by}
use Rattle.audit_spared.proofs.SparedLemmas.WorkedCaptures.{two_hosts_there_lawful}
use Rattle.audit_spared.proofs.spared.worked.clients_must_speak_with_one_host.Goals as goal

pub returns-clause-captures : goal.returns-clause-captures
returns-clause-captures x c there = at_one (λ e. FollowOneAnother (IsTimelyCapture own_name e) (filter (is_with e) (to_second_host ∷ asks_two_hosts))) client c
    (follow_one (IsTimelyCapture own_name client) (filter (is_with client) (to_second_host ∷ asks_two_hosts)) (filter (is_with client) (to_second_host ∷ asks_two_hosts)) refl (served_by own_name client (filter (is_with client) (to_second_host ∷ asks_two_hosts)) two_hosts_there_lawful refl refl)) there

pub returns-clause-others : goal.returns-clause-others
returns-clause-others x = others_by one_client (to_second_host ∷ asks_two_hosts) refl

pub returns-clause-ports : goal.returns-clause-ports
returns-clause-ports x = ports_by one_client refl

pub returns-clause-order : goal.returns-clause-order
returns-clause-order x = order_by (to_second_host ∷ asks_two_hosts) refl

pub returns-clause-accused : goal.returns-clause-accused
returns-clause-accused x = record {
  transfer = record { number = 2; client = client; asked = at 2 69; writes = false; has_window = false };
  at = refl;
  rule = Rule.Port PortRule.Foreign;
  refused = foreign_port (at_server_of 69) (as_served own_name client (requests 2 client (at 2 69) (codes "f")) ∷ []) (as_served own_name client to_second_host) (served_lawful own_name client (filter (is_with client) (to_second_host ∷ asks_two_hosts)) two_hosts_there_lawful).1.1.1 refl;
  doubtless = refl;
}

pub returns-clause-hosts : goal.returns-clause-hosts
returns-clause-hosts x = own_names
