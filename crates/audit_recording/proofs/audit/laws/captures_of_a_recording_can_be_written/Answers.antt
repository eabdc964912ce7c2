use Rattle.std.proofs.Common.{refl}
use Rattle.audit_recording.proofs.AuditLemmas.Writing.{all_lawful, asked_port, placed_sound}
use Rattle.audit_flows.specs.Transfers.{placed, is_at_server}
use Rattle.audit_flows.specs.Lines.{is_of}
use Rattle.audit_views.specs.Views.{way_at_client, way_at_server}
use Rattle.audit_recording.proofs.audit.laws.captures_of_a_recording_can_be_written.Goals as goal

pub returns-clause-client : goal.returns-clause-client
returns-clause-client c named passed n x sound opened short = record {
  service = asked_port named passed n x sound opened;
  plain = refl;
  lawful = all_lawful (is_of x.number) (way_at_client x) (placed named passed) (placed_sound named passed sound);
  short = short;
}

pub returns-clause-server : goal.returns-clause-server
returns-clause-server c named passed n x sound opened short = record {
  service = asked_port named passed n x sound opened;
  plain = refl;
  lawful = all_lawful (is_at_server x.number (placed named passed)) (way_at_server x (placed named passed)) (placed named passed) (placed_sound named passed sound);
  short = short;
}
