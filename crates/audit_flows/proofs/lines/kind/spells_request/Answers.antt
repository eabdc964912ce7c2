use Rattle.std.proofs.Common.{subst}
use Rattle.tftp_packet.specs.{Message, Spells}
use Rattle.audit_flows.proofs.lines.kind.spells_request.Goals as goal

pub returns-in-Ok-clause-yes : goal.returns-in-Ok-clause-yes
returns-in-Ok-clause-yes c is = let request = c.is_request.ensures.yes is in (request.0, subst (Spells c.args.payload.now) request.1 c.in-Ok.ensures.found)

pub returns-in-Ok-clause-no : goal.returns-in-Ok-clause-no
returns-in-Ok-clause-no c r spelled = c.is_request.ensures.no r (c.in-Ok.ensures.only (Message.Request r) spelled)

pub returns-in-Err-clause-no : goal.returns-in-Err-clause-no
returns-in-Err-clause-no c r spelled = absurd (c.in-Err.ensures.only (Message.Request r) spelled)
