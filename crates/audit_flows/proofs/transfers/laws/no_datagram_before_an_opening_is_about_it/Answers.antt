use Rattle.audit_flows.proofs.TransfersLemmas.Numbers.{none_answers_before, none_before, opening_number}
use Rattle.audit_flows.proofs.transfers.laws.no_datagram_before_an_opening_is_about_it.Goals as goal

pub returns-clause-number : goal.returns-clause-number
returns-clause-number c named older now d x opens = opening_number named older now d x opens

pub returns-clause-about : goal.returns-clause-about
returns-clause-about c named recorded n opened_later = none_before named recorded n opened_later

pub returns-clause-answers : goal.returns-clause-answers
returns-clause-answers c named recorded n opened_later = none_answers_before named recorded n opened_later
