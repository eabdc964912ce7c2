use Rattle.std.proofs.Common.{false, [], ◌∷◌, codes, filter, map, refl}
use Rattle.law_end.specs.{Rule}
use Rattle.law_model.specs.{PortRule}
use Rattle.audit_flows.specs.Transfers.{ack_of, client, data_of, service}
use Rattle.audit_flows.specs.Transfers.Worked.{passes, requests, server}
use Rattle.audit_spared.specs.Spared.Seen.{HasNoSilence, as_seen_by, at_client_of, is_with}
use Rattle.audit_spared.specs.Spared.{AsksInTime, FollowOneAnother, as_served, at_server_of}
use Rattle.audit_spared.specs.Spared.Worked.{asks_elsewhere, block_came, one_client, own_name}
use Rattle.audit_spared.proofs.SparedLemmas.WorkedPremises.{at_one, follow_one, here_by, in_time_by, order_by, others_by, own_names, ports_by, steady_by, wrong_port}
use Rattle.audit_spared.proofs.SparedLemmas.WorkedCaptures.{plain_lawful, plain_there_lawful}
use Rattle.audit_spared.proofs.SparedLemmas.ClientEnd.{lawful_at}
use Rattle.audit_spared.proofs.SparedLemmas.ServedEnd.{served_lawful}
use Rattle.audit_spared.proofs.spared.worked.captures_must_be_lawful.Goals as goal

pub returns-clause-captures : goal.returns-clause-captures
returns-clause-captures x c there = at_one (λ e. FollowOneAnother HasNoSilence (filter (is_with e) (asks_elsewhere ∷ block_came))) client c
    (follow_one HasNoSilence (asks_elsewhere ∷ block_came) (filter (is_with client) (asks_elsewhere ∷ block_came)) refl (steady_by (filter (is_with client) (asks_elsewhere ∷ block_came)) refl)) there

pub returns-clause-in_time : goal.returns-clause-in_time
returns-clause-in_time x c there = at_one (λ e. FollowOneAnother (AsksInTime e) (filter (is_with e) (asks_elsewhere ∷ block_came))) client c
    (follow_one (AsksInTime client) (asks_elsewhere ∷ block_came) (filter (is_with client) (asks_elsewhere ∷ block_came)) refl (in_time_by client (asks_elsewhere ∷ block_came) refl)) there

pub returns-clause-here : goal.returns-clause-here
returns-clause-here x = here_by service one_client (asks_elsewhere ∷ block_came) refl

pub returns-clause-others : goal.returns-clause-others
returns-clause-others x = others_by one_client (asks_elsewhere ∷ block_came) refl

pub returns-clause-hosts : goal.returns-clause-hosts
returns-clause-hosts x = own_names

pub returns-clause-ports : goal.returns-clause-ports
returns-clause-ports x = ports_by one_client refl

pub returns-clause-order : goal.returns-clause-order
returns-clause-order x = order_by (asks_elsewhere ∷ block_came) refl

pub returns-clause-accused : goal.returns-clause-accused
returns-clause-accused x = record {
  transfer = record { number = 0; client = client; asked = service; writes = false; has_window = false };
  at = refl;
  rule = Rule.Port PortRule.Wrong;
  refused = wrong_port (at_client_of 69) (map (as_seen_by own_name client) block_came) (as_seen_by own_name client asks_elsewhere)
      (lawful_at own_name client (passes 3 client server (ack_of 1) ∷ passes 2 server client (data_of 1) ∷ requests 1 client service (codes "f") ∷ []) plain_lawful).1 refl;
  doubtless = refl;
}

pub returns-clause-accused_there : goal.returns-clause-accused_there
returns-clause-accused_there x = record {
  transfer = record { number = 0; client = client; asked = service; writes = false; has_window = false };
  at = refl;
  rule = Rule.Port PortRule.Wrong;
  refused = wrong_port (at_server_of 69) (map (as_served own_name client) block_came) (as_served own_name client asks_elsewhere)
      (served_lawful own_name client (passes 3 client server (ack_of 1) ∷ passes 2 server client (data_of 1) ∷ requests 1 client service (codes "f") ∷ []) plain_there_lawful).1 refl;
  doubtless = refl;
}
