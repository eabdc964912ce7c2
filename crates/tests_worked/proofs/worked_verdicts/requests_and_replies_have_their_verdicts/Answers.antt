use Rattle.std.proofs.Common.{[], ◌∷◌, refl}
use Rattle.law_model.specs.{EndRule}
use Rattle.law_end.specs.{Rule}
use Rattle.tests_worked.specs.{at_client, brings_hi, ack_zero, agrees_to_eight, agrees_to_four, asks_for_size, before_changed_reply, before_late_oack, before_taking_offer, late_oack, only_asked, too_many_blocks, at_service}
use Rattle.tests_worked.proofs.ByRules.{refused_verdict}
use Rattle.tests_worked.proofs.RefusedMore.{unasked_refused, kind_refused, reply_refused, oack_refused, late_refused, many_refused}
use Rattle.tests_worked.proofs.worked_verdicts.requests_and_replies_have_their_verdicts.Goals as goal

pub returns-clause-no_request : goal.returns-clause-no_request
returns-clause-no_request c = refused_verdict at_client [] brings_hi Rule.NoRequest 1 refl refl unasked_refused

pub returns-clause-kind : goal.returns-clause-kind
returns-clause-kind c = refused_verdict at_client only_asked ack_zero Rule.WrongKind 2 refl refl kind_refused

pub returns-clause-reply : goal.returns-clause-reply
returns-clause-reply c = refused_verdict at_client before_changed_reply agrees_to_four Rule.ReplyChanged 3 refl refl reply_refused

pub returns-clause-oack : goal.returns-clause-oack
returns-clause-oack c = refused_verdict at_client before_taking_offer agrees_to_eight Rule.OackChanged 3 refl refl oack_refused

pub returns-clause-late_oack : goal.returns-clause-late_oack
returns-clause-late_oack c = refused_verdict at_service before_late_oack late_oack Rule.OackAfterStart 5 refl refl late_refused

pub returns-clause-too_many : goal.returns-clause-too_many
returns-clause-too_many c = refused_verdict at_client (asks_for_size ∷ []) too_many_blocks (Rule.Block EndRule.BeyondBlock65535) 2 refl refl many_refused
