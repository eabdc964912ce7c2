use Rattle.audit_views.proofs.PartiesLemmas.Addresses.{called_one, is_host}
use Rattle.audit_views.proofs.parties.laws.hosts_are_one_if_called_the_same.Goals as goal

pub returns-clause-one : goal.returns-clause-one
returns-clause-one c = called_one

pub returns-clause-host : goal.returns-clause-host
returns-clause-host c = is_host
