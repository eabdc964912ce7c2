use Rattle.std.proofs.Common.{◌≡◌, Some, None, sym, ap, ◌∙◌, subst, filter, Option}
use Rattle.audit_flows.specs.{Transfer}
use Rattle.law_end.specs.{IsEnded}
use Rattle.law_model.specs.Rules.{transfer_of}
use Rattle.tftp_judge.specs.{TakesForJoin}
use Rattle.audit_flows.specs.Transfers.{is_about}
use Rattle.audit_views.specs.Views.{server_capture, server_header, has_refused, HoldsOf, IsFoundBy, IsGoingOnBy, IsServerAfterBy, IsViewAfterBy, IsWaiting, Server, View, ViewedWith}
use Rattle.audit_views.proofs.ViewsLemmas.Holding.{own_alone}
use Rattle.audit_views.proofs.views.server_view.ServerView.finish.Goals as goal

pub returns-in-None-clause-by_rollover : goal.returns-in-None-clause-by_rollover
returns-in-None-clause-by_rollover g c rollover name whole after =
    let v : View = record { transfer = c.self.inside.transfer; rollover = c.self.inside.rollover; ends = c.self.inside.ends; held = c.self.inside.held.items; judge = c.self.inside.judge } in
    let waits : IsWaiting rollover v name whole = subst (λ (o : Option Server). ViewedWith rollover o v name whole) c.in-None.is (subst (λ (v : View). IsViewAfterBy rollover v name whole) (sym c.self.view_is) after) in
    let own = subst (λ o. IsServerAfterBy o c.judge_of.result name whole (filter (is_about v.transfer.number) whole)) waits.own (c.judge_of.ensures.after name whole (filter (is_about v.transfer.number) whole) waits.ends waits.held) in
    let all = own_alone rollover c.judge_of.result name whole (subst (λ (x : Transfer). IsServerAfterBy rollover c.judge_of.result name whole (filter (is_about x.number) whole)) (sym c.judge_of.ensures.transfer) own) in
    subst (λ (x : Transfer). IsFoundBy rollover (server_header x) (server_capture name x whole whole) c.finish-in-None.result) (c.judge_of.ensures.transfer ∙ ap (λ (v : View). v.transfer) c.self.view_is)
    (c.finish-in-None.ensures.judged rollover name whole whole all)

pub returns-in-None-clause-judged : goal.returns-in-None-clause-judged
returns-in-None-clause-judged g c = returns-in-None-clause-by_rollover g c None

pub returns-in-Some-clause-memory : goal.returns-in-Some-clause-memory
returns-in-Some-clause-memory g c rollover name whole judge count after is none failed =
    let v : View = record { transfer = c.self.inside.transfer; rollover = c.self.inside.rollover; ends = c.self.inside.ends; held = c.self.inside.held.items; judge = c.self.inside.judge } in
    let goes : IsGoingOnBy rollover c.in-Some.judge v name whole = subst (λ (o : Option Server). ViewedWith rollover o v name whole) c.in-Some.is (subst (λ (v : View). IsViewAfterBy rollover v name whole) (sym c.self.view_is) after) in
    let known : Some c.in-Some.judge ≡ Some judge = sym c.in-Some.is ∙ ap (λ (v : View). v.judge) c.self.view_is ∙ is in
    let same : c.in-Some.judge.end.judge.refused ≡ judge.end.judge.refused = ap (λ (o : Option Server). has_refused (record { transfer = v.transfer; rollover = v.rollover; ends = v.ends; held = v.held; judge = o })) known in
    let said = c.finish.ensures.memory rollover name whole whole count goes.after (same ∙ none) failed in
    let x : c.in-Some.judge.transfer ≡ c.args.self.transfer = goes.transfer ∙ ap (λ (v : View). v.transfer) c.self.view_is in
    subst (λ (x : Transfer). HoldsOf rollover (λ k taken. IsEnded k taken × TakesForJoin g.D.Delivered.join_takes (transfer_of k taken)) (server_header x) (server_capture name x whole whole)) x said

pub returns-in-Some-clause-by_rollover : goal.returns-in-Some-clause-by_rollover
returns-in-Some-clause-by_rollover g c rollover name whole after =
    let v : View = record { transfer = c.self.inside.transfer; rollover = c.self.inside.rollover; ends = c.self.inside.ends; held = c.self.inside.held.items; judge = c.self.inside.judge } in
    let goes : IsGoingOnBy rollover c.in-Some.judge v name whole = subst (λ (o : Option Server). ViewedWith rollover o v name whole) c.in-Some.is (subst (λ (v : View). IsViewAfterBy rollover v name whole) (sym c.self.view_is) after) in
    subst (λ (x : Transfer). IsFoundBy rollover (server_header x) (server_capture name x whole whole) c.finish.result) (goes.transfer ∙ ap (λ (v : View). v.transfer) c.self.view_is)
    (c.finish.ensures.judged rollover name whole whole goes.after)

pub returns-in-Some-clause-judged : goal.returns-in-Some-clause-judged
returns-in-Some-clause-judged g c = returns-in-Some-clause-by_rollover g c None
