use Rattle.audit_cleared.proofs.Named.{rules_cleared, meaning_kept}
use Rattle.audit_cleared.proofs.laws.client_clears.Goals as goal

pub returns-clause-rules : goal.returns-clause-rules
returns-clause-rules c = rules_cleared

pub returns-clause-accepted : goal.returns-clause-accepted
returns-clause-accepted c = meaning_kept
