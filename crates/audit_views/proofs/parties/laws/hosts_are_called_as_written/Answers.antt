use Rattle.audit_views.proofs.PartiesLemmas.Addresses.{called_as_written}
use Rattle.audit_views.proofs.parties.laws.hosts_are_called_as_written.Goals as goal

pub returns : goal.returns
returns c = called_as_written
