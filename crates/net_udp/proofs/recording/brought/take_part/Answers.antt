use Rattle.std.proofs.Common.{◌≡◌, [], Ok, inl, refl, ap, ◌∙◌}
use Rattle.net_udp.specs.Fragments.{part_of, Arrival, set_at}
use Rattle.net_udp.specs.declared.fragments.outcome.Outcome.{Outcome}
use Rattle.net_udp.proofs.FragmentsLemmas.Rooms.{on_err}
use Rattle.net_udp.proofs.RecordingLemmas.Bringing.{makes_room, may_be_put, never_full}
use Rattle.net_udp.proofs.recording.brought.take_part.Goals as goal

pub returns-in_err-outcome-clause-wants : goal.returns-in_err-outcome-clause-wants
returns-in_err-outcome-clause-wants c =
    on_err c.from_residual.result _ (record {
      young = c.let_go_old-old.new.waiting;
      roomy = c.let_go_old-old.new.waiting;
      gone = c.let_go_old-old.result.items;
      ousted = [];
      lets_go = c.let_go_old-old.ensures.goes;
      makes_room = inl (refl, refl, λ may. c.in_err-outcome.ensures.wants.room);
      wants = c.in_err-outcome.ensures.wants;
    })

pub returns-in_err-outcome-2-clause-wants : goal.returns-in_err-outcome-2-clause-wants
returns-in_err-outcome-2-clause-wants c =
    let a : Arrival = record { part = part_of c.args.part.now; time = c.args.time; frame = c.args.frame } in
    on_err c.from_residual-in_err-outcome-2.result _ (record {
      young = c.let_go_old-old.new.waiting;
      roomy = c.replace-ousted.new.dest;
      gone = c.let_go_old-old.result.items;
      ousted = c.replace-ousted.result;
      lets_go = c.let_go_old-old.ensures.goes;
      makes_room = makes_room (set_at c.args.key c.let_go_old-old.new.waiting) (set_at c.args.key c.put.new.self) _ _ _ a _ c.in-Full.is c.in_ok-outcome.ensures.ends (c.replace-ousted.ensures.value ∙ c.in_ok-outcome.ensures.full (ap (λ (o : Outcome). Ok o) c.in-Full.is)) (c.replace-ousted.ensures.after ∙ c.new-2.ensures) (may_be_put _ a.part _ c.in-Full.is c.in_ok-outcome.ensures.tried);
      wants = c.in_err-outcome-2.ensures.wants;
    })

pub returns-clause-ok : goal.returns-clause-ok
returns-clause-ok c =
    let a : Arrival = record { part = part_of c.args.part.now; time = c.args.time; frame = c.args.frame } in
    let none : c.replace-ousted.new.dest ≡ [] = c.replace-ousted.ensures.after ∙ c.new-2.ensures in
    record {
      young = c.let_go_old-old.new.waiting;
      roomy = c.replace-ousted.new.dest;
      outcome = c.in_ok-outcome-2.outcome;
      lets_go = c.let_go_old-old.ensures.goes;
      makes_room = makes_room (set_at c.args.key c.let_go_old-old.new.waiting) (set_at c.args.key c.put.new.self) _ _ _ a _ c.in-Full.is c.in_ok-outcome.ensures.ends (c.replace-ousted.ensures.value ∙ c.in_ok-outcome.ensures.full (ap (λ (o : Outcome). Ok o) c.in-Full.is)) none (may_be_put _ a.part _ c.in-Full.is c.in_ok-outcome.ensures.tried);
      others = c.in_ok-outcome-2.ensures.other;
      counted = c.in_ok-outcome-2.ensures.room;
      ends = c.in_ok-outcome-2.ensures.ends;
      tried = c.in_ok-outcome-2.ensures.tried;
      not_full = never_full _ _ c.replace-ousted.new.dest a c.in_ok-outcome-2.outcome none c.in_ok-outcome-2.ensures.ends;
      is = refl;
    }
