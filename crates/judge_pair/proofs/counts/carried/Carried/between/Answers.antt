use Rattle.std.proofs.Common.{List, IfNone, inl, inr, subst, sym}
use Rattle.tftp_packet.specs.Hosts.{Datagram}
use Rattle.judge_pair.specs.Counts.{AreTooMany, Counted, IsCountOf, sent, taken}
use Rattle.judge_pair.proofs.CountsLemmas.Growing.{one_surplus, sum_over}
use Rattle.judge_pair.proofs.counts.carried.Carried.between.Goals as goal

abbrev OverIs : Counted → Counted → Type 0
OverIs one other = (sender receiver : List Datagram) → IsCountOf one sender → IsCountOf other receiver → AreTooMany sender receiver

pub returns-in_err-checked_add-clause-none : goal.returns-in_err-checked_add-clause-none
returns-in_err-checked_add-clause-none c = subst (λ r. IfNone r (OverIs c.args.one.now c.args.other.now)) (sym c.from_residual-in_err-checked_add.ensures)
    (λ sender receiver one other lost repeated are also. inl (sum_over 18446744073709551616 lost are.there are.back c.in_ok-lost.field-0 c.in_ok-lost-2.field-0
    (one_surplus (λ p. sent p sender) (λ p. taken p receiver) c.in_ok-lost.field-0 are.there (c.in_ok-lost.ensures sender receiver one other) are.are_there)
    (one_surplus (λ p. sent p receiver) (λ p. taken p sender) c.in_ok-lost-2.field-0 are.back (c.in_ok-lost-2.ensures receiver sender other one) are.are_back)
    are.sum c.in_err-checked_add.ensures))

pub returns-in_err-checked_add-2-clause-none : goal.returns-in_err-checked_add-2-clause-none
returns-in_err-checked_add-2-clause-none c = subst (λ r. IfNone r (OverIs c.args.one.now c.args.other.now)) (sym c.from_residual-in_err-checked_add-2.ensures)
    (λ sender receiver one other lost repeated are also. inr (sum_over 18446744073709551616 repeated also.there also.back c.in_ok-repeated.field-0 c.in_ok-repeated-2.field-0
    (one_surplus (λ p. taken p receiver) (λ p. sent p sender) c.in_ok-repeated.field-0 also.there (c.in_ok-repeated.ensures sender receiver one other) also.are_there)
    (one_surplus (λ p. taken p sender) (λ p. sent p receiver) c.in_ok-repeated-2.field-0 also.back (c.in_ok-repeated-2.ensures receiver sender other one) also.are_back)
    also.sum c.in_err-checked_add-2.ensures))
