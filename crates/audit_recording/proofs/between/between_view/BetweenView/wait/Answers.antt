use Rattle.std.proofs.Common.{◌≡◌, ◌≤◌, ◌∷◌, List, length, None, Some, true, sym, ap, ◌∙◌, subst, arith, Option}
use Rattle.std.specs.List.{All}
use Rattle.tftp_packet.specs.{Rollover}
use Rattle.judge_tap.specs.{TapDatagram as Owned}
use Rattle.audit_flows.specs.Transfers.{AreEndsAfter, is_settled}
use Rattle.audit_flows.specs.Lines.{is_of}
use Rattle.audit_views.specs.Views.{held_of}
use Rattle.audit_recording.specs.Between.{between_capture, sides_by, sides_of, AreHeld, Between, BetweenBy, IsBetweenAfterBy, IsGoingOnBy, IsWaiting, View}
use Rattle.audit_recording.proofs.BetweenLemmas.Holding.{held_newest, is_waiting}
use Rattle.audit_views.proofs.ViewsLemmas.Holding.{held_short}
use Rattle.audit_recording.proofs.between.between_view.BetweenView.wait.Goals as goal
use Rattle.audit_recording.proofs.between.between_view.BetweenView.wait.Goals.{in-Some+in-Some-self-2, in-Some+in-None-1, in-None-1}

pub judge_of-requires-clause-short : goal.judge_of-requires-clause-short
judge_of-requires-clause-short g c =
    let short = c.requires.short in
    let copied = c.in_ok-passed.ensures.short in
    subst (λ (l : List Owned). All (λ (d : Owned). length d.payload ≤ 65527) l) (sym (ap (λ q. q.items) c.replace-held.ensures.value ∙ c.in_ok-push_back.ensures.items))
    (held_short (λ (d : Owned). d.payload) c.self.inside.held.items c.in_ok-passed.field-0 c.self.invariant.2 (omega arith))

pub invariant_of-self-else-is_settled : goal.invariant_of-self-else-is_settled
invariant_of-self-else-is_settled g c =
    let short = c.requires.short in
    let copied = c.in_ok-passed.ensures.short in
    let few = c.requires.few in
    let held : length c.self.inside.held.items ≡ length c.args.self.now.held = ap (λ (v : View). length v.held) c.self.view_is in
    let len = c.in_ok-push_back.ensures.len in
    let own = c.self.inside.held.ok.0 in
    let all : All (λ (d : Owned). length d.payload ≤ 65527) c.push_back.new.self.items = subst (λ (l : List Owned). All (λ (d : Owned). length d.payload ≤ 65527) l) (sym c.in_ok-push_back.ensures.items)
    (held_short (λ (d : Owned). d.payload) c.self.inside.held.items c.in_ok-passed.field-0 c.self.invariant.2 (omega arith)) in
    (c.note.ensures.number ∙ c.self.invariant.0, omega arith, all)

pub returns-else-is_settled-clause-after : goal.returns-else-is_settled-clause-after
returns-else-is_settled-clause-after g c rollover p older after fed is =
    let v : View = record { transfer = c.self.inside.transfer; rollover = c.self.inside.rollover; ends = c.self.inside.ends; held = c.self.inside.held.items; judge = c.self.inside.judge } in
    let w : View = record { transfer = c.self.inside.transfer; rollover = c.self.inside.rollover; ends = c.note.new.self; held = c.push_back.new.self.items; judge = c.self.inside.judge } in
    let none : v.judge ≡ None = ap (λ (v : View). v.judge) c.self.view_is ∙ c.requires.waits in
    let waits : IsWaiting rollover v older = is_waiting rollover v older none (subst (λ (v : View). IsBetweenAfterBy rollover v older) (sym c.self.view_is) after) in
    let of_it : is_of v.transfer.number p ≡ true = ap (λ (v : View). is_of v.transfer.number p) c.self.view_is ∙ is in
    let ends : AreEndsAfter c.note.new.self (p ∷ older) = c.note.ensures.stands p older waits.ends fed.belongs fed.from fed.to fed.carries in
    let known = ap (λ k. is_settled k (p ∷ older)) (sym (c.note.ensures.number ∙ c.self.invariant.0)) ∙ sym (c.is_settled.ensures (p ∷ older) ends) in
    subst (λ (o : Option Between). BetweenBy rollover o w (p ∷ older)) (sym none) (record {
      own = waits.own;
      number = c.note.ensures.number ∙ c.self.invariant.0;
      ends = ends;
      unsettled = known ∙ c.if-is_settled.false;
      held = subst (λ (l : List Owned). AreHeld l (between_capture v.transfer (p ∷ older))) (sym c.in_ok-push_back.ensures.items)
          (held_newest v.transfer v.held c.in_ok-passed.field-0 p older (held_of c.args.fed.now) fed of_it c.in_ok-passed.ensures.passed waits.held);
    })

pub returns-then-is_settled-clause-after : goal.returns-then-is_settled-clause-after
returns-then-is_settled-clause-after g c rollover p older after fed is =
    let v : View = record { transfer = c.self.inside.transfer; rollover = c.self.inside.rollover; ends = c.self.inside.ends; held = c.self.inside.held.items; judge = c.self.inside.judge } in
    let w : View = record { transfer = c.self.inside.transfer; rollover = c.self.inside.rollover; ends = c.note.new.self; held = c.replace-held.new.dest.items; judge = Some c.judge_of.result } in
    let none : v.judge ≡ None = ap (λ (v : View). v.judge) c.self.view_is ∙ c.requires.waits in
    let waits : IsWaiting rollover v older = is_waiting rollover v older none (subst (λ (v : View). IsBetweenAfterBy rollover v older) (sym c.self.view_is) after) in
    let of_it : is_of v.transfer.number p ≡ true = ap (λ (v : View). is_of v.transfer.number p) c.self.view_is ∙ is in
    let ends : AreEndsAfter c.note.new.self (p ∷ older) = c.note.ensures.stands p older waits.ends fed.belongs fed.from fed.to fed.carries in
    let known = ap (λ k. is_settled k (p ∷ older)) (sym (c.note.ensures.number ∙ c.self.invariant.0)) ∙ sym (c.is_settled.ensures (p ∷ older) ends) in
    let held : AreHeld c.replace-held.result.items (between_capture v.transfer (p ∷ older)) =
    subst (λ (l : List Owned). AreHeld l (between_capture v.transfer (p ∷ older))) (sym (ap (λ q. q.items) c.replace-held.ensures.value ∙ c.in_ok-push_back.ensures.items))
    (held_newest v.transfer v.held c.in_ok-passed.field-0 p older (held_of c.args.fed.now) fed of_it c.in_ok-passed.ensures.passed waits.held) in
    let goes : IsGoingOnBy rollover c.judge_of.result w (p ∷ older) = record {
      settled = known ∙ c.if-is_settled.true;
      none = ap (λ q. q.items) c.replace-held.ensures.after ∙ c.new.ensures.items;
      sides = c.judge_of.ensures.sides ∙ c.sides_of-sides.ensures (p ∷ older) ends ∙ ap (λ (o : Option Rollover). sides_by o (sides_of v.transfer (p ∷ older))) waits.own;
      passed = c.judge_of.ensures.passed (between_capture v.transfer (p ∷ older)) held;
    } in
    elim c.match-self.branch [
      | in-Some+in-Some-self-2 w' ↦ subst (λ (v : View). IsBetweenAfterBy rollover v (p ∷ older)) (sym w'.self-is) goes
      | in-Some+in-None-1 w' ↦ subst (λ (v : View). IsBetweenAfterBy rollover v (p ∷ older)) (sym w'.self-is) goes
      | in-None-1 w' ↦ subst (λ (v : View). IsBetweenAfterBy rollover v (p ∷ older)) (sym w'.self-is) goes
    ]
