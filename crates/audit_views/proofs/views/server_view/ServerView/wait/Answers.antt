use Rattle.std.proofs.Common.{◌≡◌, ◌≤◌, ◌∷◌, List, length, None, Some, true, reverse, sym, ap, ◌∙◌, subst, arith, filter, Option}
use Rattle.std.specs.List.{All}
use Rattle.audit_flows.specs.Transfers.{AreEndsAfter, is_settled, is_about}
use Rattle.audit_flows.specs.{Transfer}
use Rattle.audit_views.specs.Views.{AreHeld, IsFed, IsGoingOnBy, IsServerAfterBy, IsViewAfterBy, IsWaiting, Server, View, ViewedWith}
use Rattle.audit_views.specs.declared.views.held.Held.{Held}
use Rattle.audit_views.proofs.ViewsLemmas.Holding.{held_newest, held_short, own_alone}
use Rattle.audit_views.proofs.views.server_view.ServerView.wait.Goals as goal
use Rattle.audit_views.proofs.views.server_view.ServerView.wait.Goals.{in-Some-1, in-None-1}

pub judge_of-requires-clause-short : goal.judge_of-requires-clause-short
judge_of-requires-clause-short g c =
    subst (λ (l : List Held). All (λ (h : Held). length h.payload ≤ 65527) l) (sym (ap (λ q. q.items) c.replace-held.ensures.value ∙ c.in_ok-push_back.ensures.items))
    (held_short (λ (h : Held). h.payload) c.self.inside.held.items c.in_ok-held.field-0 c.self.invariant.2 (subst (λ (h : Held). length h.payload ≤ 65527) (sym c.in_ok-held.ensures.held) c.requires.short))

pub invariant_of-self-else-is_settled : goal.invariant_of-self-else-is_settled
invariant_of-self-else-is_settled g c =
    let few = c.requires.few in
    let held : length c.self.inside.held.items ≡ length c.args.self.now.held = ap (λ (v : View). length v.held) c.self.view_is in
    let len = c.in_ok-push_back.ensures.len in
    let own = c.self.inside.held.ok.0 in
    let all : All (λ (h : Held). length h.payload ≤ 65527) c.push_back.new.self.items = subst (λ (l : List Held). All (λ (h : Held). length h.payload ≤ 65527) l) (sym c.in_ok-push_back.ensures.items)
    (held_short (λ (h : Held). h.payload) c.self.inside.held.items c.in_ok-held.field-0 c.self.invariant.2 (subst (λ (h : Held). length h.payload ≤ 65527) (sym c.in_ok-held.ensures.held) c.requires.short)) in
    (c.note.ensures.number ∙ c.self.invariant.0, omega arith, all)

pub returns-else-is_settled-clause-after : goal.returns-else-is_settled-clause-after
returns-else-is_settled-clause-after g c rollover name p older after fed about =
    let v : View = record { transfer = c.self.inside.transfer; rollover = c.self.inside.rollover; ends = c.self.inside.ends; held = c.self.inside.held.items; judge = c.self.inside.judge } in
    let w : View = record { transfer = c.self.inside.transfer; rollover = c.self.inside.rollover; ends = c.note.new.self; held = c.push_back.new.self.items; judge = c.self.inside.judge } in
    let none : v.judge ≡ None = ap (λ (v : View). v.judge) c.self.view_is ∙ c.requires.waits in
    let waits : IsWaiting rollover v name older = subst (λ (o : Option Server). ViewedWith rollover o v name older) none (subst (λ (v : View). IsViewAfterBy rollover v name older) (sym c.self.view_is) after) in
    let h : Held = c.in_ok-held.field-0 in
    let as_held : IsFed name p h = subst (IsFed name p) (sym c.in_ok-held.ensures.held) fed in
    let of_it : is_about v.transfer.number p ≡ true = ap (λ (v : View). is_about v.transfer.number p) c.self.view_is ∙ about in
    let ends : AreEndsAfter c.note.new.self (p ∷ older) = c.note.ensures.stands p older waits.ends fed.belongs fed.from fed.to fed.carries in
    let known = ap (λ k. is_settled k (p ∷ older)) (sym (c.note.ensures.number ∙ c.self.invariant.0)) ∙ sym (c.is_settled.ensures (p ∷ older) ends) in
    subst (λ (o : Option Server). ViewedWith rollover o w name (p ∷ older)) (sym none) (record {
      own = waits.own;
      number = c.note.ensures.number ∙ c.self.invariant.0;
      ends = ends;
      unsettled = known ∙ c.if-is_settled.false;
      held = subst (λ (l : List Held). AreHeld name l (reverse (filter (is_about v.transfer.number) (p ∷ older)))) (sym c.in_ok-push_back.ensures.items) (held_newest v.transfer.number name v.held older h p of_it waits.held as_held);
    })

pub returns-then-is_settled-clause-after : goal.returns-then-is_settled-clause-after
returns-then-is_settled-clause-after g c rollover name p older after fed about =
    let v : View = record { transfer = c.self.inside.transfer; rollover = c.self.inside.rollover; ends = c.self.inside.ends; held = c.self.inside.held.items; judge = c.self.inside.judge } in
    let w : View = record { transfer = c.self.inside.transfer; rollover = c.self.inside.rollover; ends = c.note.new.self; held = c.replace-held.new.dest.items; judge = Some c.judge_of.result } in
    let none : v.judge ≡ None = ap (λ (v : View). v.judge) c.self.view_is ∙ c.requires.waits in
    let waits : IsWaiting rollover v name older = subst (λ (o : Option Server). ViewedWith rollover o v name older) none (subst (λ (v : View). IsViewAfterBy rollover v name older) (sym c.self.view_is) after) in
    let h : Held = c.in_ok-held.field-0 in
    let as_held : IsFed name p h = subst (IsFed name p) (sym c.in_ok-held.ensures.held) fed in
    let of_it : is_about v.transfer.number p ≡ true = ap (λ (v : View). is_about v.transfer.number p) c.self.view_is ∙ about in
    let ends : AreEndsAfter c.note.new.self (p ∷ older) = c.note.ensures.stands p older waits.ends fed.belongs fed.from fed.to fed.carries in
    let known = ap (λ k. is_settled k (p ∷ older)) (sym (c.note.ensures.number ∙ c.self.invariant.0)) ∙ sym (c.is_settled.ensures (p ∷ older) ends) in
    let held : AreHeld name c.push_back.new.self.items (reverse (filter (is_about v.transfer.number) (p ∷ older))) =
    subst (λ (l : List Held). AreHeld name l (reverse (filter (is_about v.transfer.number) (p ∷ older)))) (sym c.in_ok-push_back.ensures.items) (held_newest v.transfer.number name v.held older h p of_it waits.held as_held) in
    let own = subst (λ o. IsServerAfterBy o c.judge_of.result name (p ∷ older) (filter (is_about v.transfer.number) (p ∷ older))) waits.own
    (c.judge_of.ensures.after name (p ∷ older) (filter (is_about v.transfer.number) (p ∷ older)) ends
    (subst (λ (l : List Held). AreHeld name l (reverse (filter (is_about v.transfer.number) (p ∷ older)))) (sym (ap (λ q. q.items) c.replace-held.ensures.value)) held)) in
    let goes : IsGoingOnBy rollover c.judge_of.result w name (p ∷ older) = record {
      transfer = c.judge_of.ensures.transfer;
      settled = known ∙ c.if-is_settled.true;
      none = ap (λ q. q.items) c.replace-held.ensures.after ∙ c.new.ensures.items;
      after = own_alone rollover c.judge_of.result name (p ∷ older) (subst (λ (x : Transfer). IsServerAfterBy rollover c.judge_of.result name (p ∷ older) (filter (is_about x.number) (p ∷ older))) (sym c.judge_of.ensures.transfer) own);
    } in
    elim c.match-self.branch [
      | in-Some-1 w' ↦ subst (λ (v : View). IsViewAfterBy rollover v name (p ∷ older)) (sym w'.self-is) goes
      | in-None-1 w' ↦ subst (λ (v : View). IsViewAfterBy rollover v name (p ∷ older)) (sym w'.self-is) goes
    ]
