use Rattle.std.proofs.Common.{sym, ap, ◌∙◌}
use Rattle.net_udp.proofs.FragmentsLemmas.Rooms.{on_err}
use Rattle.net_udp.specs.Recording.{Makers, maker_of}
use Rattle.net_udp.proofs.RecordingLemmas.Discarding.{knows_as_before, knows_more, unknown}
use Rattle.net_udp.proofs.recording.senders.Senders.learn.Goals as goal

pub returns-in-None-clause-knows : goal.returns-in-None-clause-knows
returns-in-None-clause-knows c = λ before knows. knows_as_before c.args.self.now c.args.sent c.maker_of.result before c.maker_of.ensures (sym c.learned.ensures ∙ c.in-None.is) knows

pub returns-in_ok-insert-in-Some-clause-knows : goal.returns-in_ok-insert-in-Some-clause-knows
returns-in_ok-insert-in-Some-clause-knows c = λ before knows.
    knows_more c.args.self.now c.insert.new.self.entries c.args.sent c.maker_of.result c.in-Some.maker before c.maker_of.ensures (sym c.learned.ensures ∙ c.in-Some.is)
    c.in_ok-insert-in-Some.ensures.updates.1 (λ host e. c.in_ok-insert-in-Some.ensures.updates.2 host e ∙ ap (λ (makers : Makers). maker_of host makers) c.self.view_is) knows

pub returns-in_err-insert-in-Some-clause-wants : goal.returns-in_err-insert-in-Some-clause-wants
returns-in_err-insert-in-Some-clause-wants c =
    on_err c.from_residual.result _ (λ before knows.
    unknown c.args.self.now c.args.sent c.maker_of.result c.in-Some.maker before c.maker_of.ensures (sym c.learned.ensures ∙ c.in-Some.is)
    (sym (ap (λ (makers : Makers). maker_of c.args.sent.host makers) c.self.view_is) ∙ c.in_err-insert-in-Some.ensures.absent) knows)
