use Rattle.audit_views.proofs.PartiesLemmas.Names.{v4_signs}
use Rattle.audit_views.proofs.parties.naming.ipv4_host.Goals as goal

pub host_written-requires-clause-signs : goal.host_written-requires-clause-signs
host_written-requires-clause-signs c = v4_signs c.from.result c.args.bytes.now c.from.ensures c.fits-bytes
