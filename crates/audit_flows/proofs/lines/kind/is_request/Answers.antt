use Rattle.std.proofs.Common.{ap}
use Rattle.tftp_packet.specs.{meaning, parts}
use Rattle.audit_flows.proofs.lines.kind.is_request.Goals as goal

pub returns-in-Request-clause-yes : goal.returns-in-Request-clause-yes
returns-in-Request-clause-yes c is = (parts c.in-Request.field-0, ap meaning c.in-Request.is)
