use Rattle.tftp_capture.specs.{numbered_in}
use Rattle.audit_views.proofs.TextsLemmas.Entries.{has_verdict, is_read, said_so}
use Rattle.audit_views.proofs.texts.laws.a_text_of_datagrams_is_their_capture.Goals as goal

pub returns-clause-read : goal.returns-clause-read
returns-clause-read c = λ text h given t port plain lawful short. (numbered_in 4 t.entries, is_read text h given t port plain lawful short, said_so text h given t port plain lawful short)

pub returns-clause-verdict : goal.returns-clause-verdict
returns-clause-verdict c = λ text h given t port plain lawful short. has_verdict text h given t port plain lawful short
