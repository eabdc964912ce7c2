use Rattle.audit_views.proofs.PartiesLemmas.Names.{v6_signs, v6_some}
use Rattle.audit_views.proofs.parties.naming.ipv6_host.Goals as goal

pub host_written-requires-clause-some : goal.host_written-requires-clause-some
host_written-requires-clause-some c = v6_some c.from.result c.args.bytes.now c.from.ensures c.told-bytes

pub host_written-requires-clause-signs : goal.host_written-requires-clause-signs
host_written-requires-clause-signs c = v6_signs c.from.result c.args.bytes.now c.from.ensures c.fits-bytes
