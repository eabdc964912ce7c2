use Rattle.std.proofs.Common.{ap, ◌∙◌}
use Rattle.audit_views.specs.Parties.{host_name}
use Rattle.audit_views.proofs.PartiesLemmas.Addresses.{called_as_written}
use Rattle.audit_views.proofs.parties.naming.party_of.Goals as goal

pub returns-clause-text : goal.returns-clause-text
returns-clause-text c = c.host_of-host.ensures.name ∙ ap host_name c.address_of-address.ensures.same ∙ called_as_written c.args.address
