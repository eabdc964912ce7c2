use Rattle.std.proofs.Common.{refl, sym, ap, ◌∙◌}
use Rattle.std.proofs.lemmas.Bool.{false≢true}
use Rattle.tftp_packet.specs.{lower, pairs_of, text_of}
use Rattle.tftp_packet.proofs.Maps.{text_found, text_later}
use Rattle.tftp_packet.proofs.options.OptionsView.get.Goals as goal

pub loop-other-init : goal.loop-other-init
loop-other-init c = ap (λ pairs. text_of pairs (lower c.args.name.now)) c.self.view_is

pub returns-then-eq_ignore_ascii_case : goal.returns-then-eq_ignore_ascii_case
returns-then-eq_ignore_ascii_case c =
    text_found (pairs_of c.loop-other.rest.now) (pairs_of c.in-Some.after.now) c.in-Some.other.now c.in-Some.text.now (lower c.args.name.now) c.in-Some.ensures.0 (c.if-eq_ignore_ascii_case.ensures.test.0 refl)
    ∙ c.loop-other.invariant

pub loop-other-preserved : goal.loop-other-preserved
loop-other-preserved c =
    sym (text_later (pairs_of c.loop-other.rest.now) (pairs_of c.in-Some.after.now) c.in-Some.other.now c.in-Some.text.now (lower c.args.name.now) c.in-Some.ensures.0 (λ same. false≢true (c.if-eq_ignore_ascii_case.ensures.test.1 same)))
    ∙ c.loop-other.invariant

pub returns : goal.returns
returns c = sym (ap (λ pairs. text_of pairs (lower c.args.name.now)) c.in_default.ensures) ∙ c.loop-other.invariant
