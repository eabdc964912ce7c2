use Rattle.std.proofs.Common.{false, List, [], ◌∷◌, codes, filter, map, refl, reverse}
use Rattle.law_end.specs.{IsLawful, Rule}
use Rattle.law_model.specs.{PortRule}
use Rattle.audit_flows.specs.Lines.{Recorded}
use Rattle.audit_flows.specs.Transfers.{client, service}
use Rattle.audit_flows.specs.Transfers.Worked.{requests}
use Rattle.audit_spared.specs.Spared.Seen.{as_seen_by, at_client_of, is_with}
use Rattle.audit_spared.specs.Spared.{AsksInTime, FollowOneAnother, as_served, at_server_of}
use Rattle.audit_spared.specs.Spared.Worked.{ack_after_silence, one_client, own_name, silent_capture}
use Rattle.audit_spared.proofs.SparedLemmas.ClientEnd.{lawful_at}
use Rattle.audit_spared.proofs.SparedLemmas.ServedEnd.{served_lawful}
use Rattle.audit_spared.proofs.SparedLemmas.WorkedPremises.{at_one, follow_one, foreign_port, here_by, in_time_by, order_by, others_by, own_names, ports_by, wrong_port}
use Rattle.audit_spared.proofs.SparedLemmas.WorkedCaptures.{silent_lawful, silent_there_lawful}
use Rattle.audit_spared.proofs.spared.worked.captures_must_be_steady.Goals as goal

pub returns-clause-captures : goal.returns-clause-captures
returns-clause-captures x c there = at_one (λ e. FollowOneAnother (λ (k : List Recorded). IsLawful (at_client_of 69) (map (as_seen_by own_name e) (reverse k))) (filter (is_with e) (ack_after_silence ∷ silent_capture))) client c
    (follow_one (λ (k : List Recorded). IsLawful (at_client_of 69) (map (as_seen_by own_name client) (reverse k))) (filter (is_with client) (ack_after_silence ∷ silent_capture)) (filter (is_with client) (ack_after_silence ∷ silent_capture)) refl (silent_lawful)) there

pub returns-clause-captures_there : goal.returns-clause-captures_there
returns-clause-captures_there x c there = at_one (λ e. FollowOneAnother (λ (k : List Recorded). IsLawful (at_server_of 69) (map (as_served own_name e) (reverse k))) (filter (is_with e) (ack_after_silence ∷ silent_capture))) client c
    (follow_one (λ (k : List Recorded). IsLawful (at_server_of 69) (map (as_served own_name client) (reverse k))) (filter (is_with client) (ack_after_silence ∷ silent_capture)) (filter (is_with client) (ack_after_silence ∷ silent_capture)) refl (silent_there_lawful)) there

pub returns-clause-in_time : goal.returns-clause-in_time
returns-clause-in_time x c there = at_one (λ e. FollowOneAnother (AsksInTime e) (filter (is_with e) (ack_after_silence ∷ silent_capture))) client c
    (follow_one (AsksInTime client) (filter (is_with client) (ack_after_silence ∷ silent_capture)) (filter (is_with client) (ack_after_silence ∷ silent_capture)) refl (in_time_by client (filter (is_with client) (ack_after_silence ∷ silent_capture)) refl)) there

pub returns-clause-here : goal.returns-clause-here
returns-clause-here x = here_by service one_client (ack_after_silence ∷ silent_capture) refl

pub returns-clause-others : goal.returns-clause-others
returns-clause-others x = others_by one_client (ack_after_silence ∷ silent_capture) refl

pub returns-clause-ports : goal.returns-clause-ports
returns-clause-ports x = ports_by one_client refl

pub returns-clause-order : goal.returns-clause-order
returns-clause-order x = order_by (ack_after_silence ∷ silent_capture) refl

pub returns-clause-accused : goal.returns-clause-accused
returns-clause-accused x = record {
  transfer = record { number = 2; client = client; asked = service; writes = false; has_window = false };
  at = refl;
  rule = Rule.Port PortRule.Wrong;
  refused = wrong_port (at_client_of 69) (as_seen_by own_name client (requests 401 client service (codes "f")) ∷ []) (as_seen_by own_name client ack_after_silence) (lawful_at own_name client (ack_after_silence ∷ silent_capture) silent_lawful).1.1.1 refl;
  doubtless = refl;
}

pub returns-clause-accused_there : goal.returns-clause-accused_there
returns-clause-accused_there x = record {
  transfer = record { number = 2; client = client; asked = service; writes = false; has_window = false };
  at = refl;
  rule = Rule.Port PortRule.Foreign;
  refused = foreign_port (at_server_of 69) (as_served own_name client (requests 401 client service (codes "f")) ∷ []) (as_served own_name client ack_after_silence) (served_lawful own_name client (ack_after_silence ∷ silent_capture) silent_there_lawful).1.1.1 refl;
  doubtless = refl;
}

pub returns-clause-hosts : goal.returns-clause-hosts
returns-clause-hosts x = own_names
