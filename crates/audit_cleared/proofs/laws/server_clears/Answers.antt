use Rattle.audit_cleared.proofs.Seated.{rules_at_server, server_cleared}
use Rattle.audit_cleared.proofs.laws.server_clears.Goals as goal

pub returns-clause-rules : goal.returns-clause-rules
returns-clause-rules c named more part x server one = rules_at_server x server named more part one

pub returns-clause-seen : goal.returns-clause-seen
returns-clause-seen c named more rest d x server one = server_cleared x server named more rest d one
