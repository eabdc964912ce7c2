use Rattle.std.proofs.Common.{refl, sym, ap}
use Rattle.std.proofs.lemmas.Bool.{false≢true}
use Rattle.tftp_packet.specs.{range_of}
use Rattle.tftp_packet.proofs.Values.{no_range}
use Rattle.tftp_packet.proofs.value.known_range.Goals as goal

pub returns-then-eq_ignore_ascii_case : goal.returns-then-eq_ignore_ascii_case
unfolding range_of
returns-then-eq_ignore_ascii_case c = sym (ap range_of (c.if-eq_ignore_ascii_case.ensures.test.0 refl))

pub returns-then-eq_ignore_ascii_case-2 : goal.returns-then-eq_ignore_ascii_case-2
unfolding range_of
returns-then-eq_ignore_ascii_case-2 c = sym (ap range_of (c.if-eq_ignore_ascii_case-2.ensures.test.0 refl))

pub returns-then-eq_ignore_ascii_case-3 : goal.returns-then-eq_ignore_ascii_case-3
unfolding range_of
returns-then-eq_ignore_ascii_case-3 c = sym (ap range_of (c.if-eq_ignore_ascii_case-3.ensures.test.0 refl))

pub returns-then-eq_ignore_ascii_case-4 : goal.returns-then-eq_ignore_ascii_case-4
unfolding range_of
returns-then-eq_ignore_ascii_case-4 c = sym (ap range_of (c.if-eq_ignore_ascii_case-4.ensures.test.0 refl))

pub returns-else-eq_ignore_ascii_case-4 : goal.returns-else-eq_ignore_ascii_case-4
returns-else-eq_ignore_ascii_case-4 c = no_range _
    (λ e. false≢true (c.if-eq_ignore_ascii_case.ensures.test.1 e)) (λ e. false≢true (c.if-eq_ignore_ascii_case-2.ensures.test.1 e))
    (λ e. false≢true (c.if-eq_ignore_ascii_case-3.ensures.test.1 e)) (λ e. false≢true (c.if-eq_ignore_ascii_case-4.ensures.test.1 e))
