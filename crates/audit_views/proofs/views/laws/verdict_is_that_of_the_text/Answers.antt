use Rattle.audit_views.proofs.ViewsLemmas.Judging.{said_of_text}
use Rattle.audit_views.proofs.views.laws.verdict_is_that_of_the_text.Goals as goal

pub returns : goal.returns
returns c = said_of_text
