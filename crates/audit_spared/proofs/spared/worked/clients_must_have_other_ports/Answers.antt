use Rattle.std.proofs.Common.{false, [], ◌∷◌, codes, filter, refl}
use Rattle.law_end.specs.{Rule}
use Rattle.law_model.specs.{PortRule}
use Rattle.audit_flows.specs.Transfers.{data_of, service}
use Rattle.audit_flows.specs.Transfers.Worked.{passes, requests, server}
use Rattle.audit_spared.specs.Spared.Seen.{as_seen_by, at_client_of, is_with}
use Rattle.audit_spared.specs.Spared.{FollowOneAnother, IsWholeCapture}
use Rattle.audit_spared.specs.Spared.Worked.{asked_by_stray, own_name, service_client, stray_is_told}
use Rattle.audit_spared.proofs.SparedLemmas.ClientEnd.{lawful_at}
use Rattle.audit_spared.proofs.SparedLemmas.WorkedPremises.{at_one, follow_one, order_by, others_by, own_names, whole_by, wrong_port}
use Rattle.audit_spared.proofs.SparedLemmas.WorkedCaptures.{service_port_lawful}
use Rattle.audit_spared.proofs.spared.worked.clients_must_have_other_ports.Goals as goal

pub returns-clause-captures : goal.returns-clause-captures
returns-clause-captures x c there = at_one (λ e. FollowOneAnother (IsWholeCapture own_name e) (filter (is_with e) (stray_is_told ∷ asked_by_stray))) service_client c
    (follow_one (IsWholeCapture own_name service_client) (filter (is_with service_client) (stray_is_told ∷ asked_by_stray)) (filter (is_with service_client) (stray_is_told ∷ asked_by_stray)) refl (whole_by own_name service_client (filter (is_with service_client) (stray_is_told ∷ asked_by_stray)) service_port_lawful refl)) there

pub returns-clause-others : goal.returns-clause-others
returns-clause-others x = others_by (service_client ∷ []) (stray_is_told ∷ asked_by_stray) refl

pub returns-clause-order : goal.returns-clause-order
returns-clause-order x = order_by (stray_is_told ∷ asked_by_stray) refl

pub returns-clause-accused : goal.returns-clause-accused
returns-clause-accused x = record {
  transfer = record { number = 0; client = service_client; asked = service; writes = false; has_window = false };
  at = refl;
  rule = Rule.Port PortRule.Wrong;
  refused = wrong_port (at_client_of 69) (as_seen_by own_name service_client (passes 1 server service_client (data_of 1)) ∷ as_seen_by own_name service_client (requests 0 service_client service (codes "f")) ∷ []) (as_seen_by own_name service_client stray_is_told) (lawful_at own_name service_client (filter (is_with service_client) (stray_is_told ∷ asked_by_stray)) service_port_lawful).1.1 refl;
  doubtless = refl;
}

pub returns-clause-hosts : goal.returns-clause-hosts
returns-clause-hosts x = own_names
