use Rattle.audit_recording.specs.Losses.Noted.{Unread}
use Rattle.audit_recording.proofs.LossesLemmas.Changing.{on_ok}
use Rattle.audit_recording.proofs.LossesLemmas.Standing.{lost_between, lost_of_none, of_two, two_are_known}
use Rattle.audit_recording.proofs.session.losses.Losses.put.Goals as goal

pub returns-in_ok-lose_at-in-Some : goal.returns-in_ok-lose_at-in-Some
returns-in_ok-lose_at-in-Some c = λ before after waiting stands more.
    let f : Unread = record { frame = c.args.frame; hosts = c.args.hosts; time = c.args.time } in
    on_ok c.lose_at-in-Some.result
    (λ second. lost_between c.args.self.now c.lose_at.new.hosts c.lose_at-in-Some.new.hosts before after waiting f c.address_of.result c.address_of-in-Some.result
    (of_two f c.in-Some.source c.in-Some.target c.address_of.result c.address_of-in-Some.result c.in-Some.is c.address_of.ensures.same c.address_of-in-Some.ensures.same)
    (two_are_known f c.in-Some.source c.in-Some.target c.in-Some.is) more c.in_ok-lose_at-in-Some.ensures second stands)
    c.lose_at-in-Some.ensures

pub returns-in-None : goal.returns-in-None
returns-in-None c = λ before after waiting stands more.
    let f : Unread = record { frame = c.args.frame; hosts = c.args.hosts; time = c.args.time } in
    on_ok c.lose.result (λ has. lost_of_none c.args.self.now c.lose.new.self before after waiting f c.in-None.is more has stands) c.lose.ensures
