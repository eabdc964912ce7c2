use Rattle.std.proofs.Common.{◌≡◌, ℕ, false, sym, ap, ◌∙◌, ◌&&◌, not}
use Rattle.audit_flows.specs.Lines.{may_be_answer_of}
use Rattle.audit_flows.specs.Transfers.{is_it}
use Rattle.audit_recording.proofs.JudgesLemmas.Keeping.{handed_all, not_own}
use Rattle.audit_recording.proofs.judges.hands.hand_on.Goals as goal

pub returns-clause-kept : goal.returns-clause-kept
returns-clause-kept g c judging name out p older fed belongs doubts kept =
    let apart : (n : ℕ) → is_it n c.unless-answered.result ≡ (is_it n (may_be_answer_of p older) && not (is_it n c.about-own.result)) =
    λ n. c.unless-answered.ensures n ∙ ap (λ d. is_it n d.may_be_answer_of && not (is_it n c.about-own.result)) doubts in
    let own = c.about-own.ensures.about p belongs in
    handed_all c.doubt.new.watched judging name out p older c.about-own.result c.unless-answered.result own apart
    (c.doubt.ensures (λ n. is_it n c.about-own.result) judging name out p older belongs doubts
    (λ n is. let off : is_it n c.about-own.result ≡ false = not_own (is_it n (may_be_answer_of p older)) (is_it n c.about-own.result) (sym (apart n) ∙ is) in (off, own n ∙ off))
    (c.in_ok-hand.ensures.handed judging name out p older fed belongs doubts kept))
