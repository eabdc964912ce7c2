use Rattle.std.proofs.Common.{◌≡◌, ◌+◌, ◌*◌, Some, IfOk, IsSome, false, refl, sym, ap, ◌∙◌, arith, subst}
use Rattle.net_udp.specs.Fragments.{end_of, MayJoin, part_of, SetState, TakeEnds, IsCounted, JoinEnds, Sets, room_of_all, set_at}
use Rattle.net_udp.proofs.FragmentsLemmas.Holding.{not_both}
use Rattle.net_udp.proofs.FragmentsLemmas.Rooms.{counted_changed, counts_changed, counts_same, on_err, same_set, same_sets, take_room}
use Rattle.net_udp.proofs.fragments.fragments.Fragments.join.Goals as goal
use Rattle.net_udp.proofs.fragments.fragments.Fragments.join.Goals.{in-Some-taken, in-None, in-None-2}

pub invariant_of-self-in_err-taken : goal.invariant_of-self-in_err-taken
invariant_of-self-in_err-taken c =
    let same = same_sets c.args.key c.self.inside.sets.entries _ c.in-Some.set.now c.take.new.self (sym c.in-Some.ensures.value) (c.get_mut.follows.holds c.take.new.self).0 c.in_err-taken.ensures.err in
    subst (λ (sets : Sets). IsCounted sets c.self.inside.waiting) (sym same) c.self.invariant

pub returns-in_err-taken-clause-other : goal.returns-in_err-taken-clause-other
returns-in_err-taken-clause-other c = λ other e.
    let same = same_sets c.args.key c.self.inside.sets.entries _ c.in-Some.set.now c.take.new.self (sym c.in-Some.ensures.value) (c.get_mut.follows.holds c.take.new.self).0 c.in_err-taken.ensures.err in
    ap (λ (sets : Sets). set_at other sets) (same ∙ c.self.view_is)

pub returns-in_err-taken-clause-err : goal.returns-in_err-taken-clause-err
returns-in_err-taken-clause-err c =
    let same = same_sets c.args.key c.self.inside.sets.entries _ c.in-Some.set.now c.take.new.self (sym c.in-Some.ensures.value) (c.get_mut.follows.holds c.take.new.self).0 c.in_err-taken.ensures.err in
    on_err c.from_residual.result _ (same ∙ c.self.view_is)

pub invariant_of-self-2 : goal.invariant_of-self-2
invariant_of-self-2 c =
    let grown = take_room c.in-Some.set.now c.take.new.self (part_of c.args.part.now) c.args.frame c.in_ok-taken.taken c.in_ok-taken.ensures.ends in
    let all : room_of_all c.self.inside.sets.entries ≡ room_of_all c.args.self.now = ap room_of_all c.self.view_is in
    counted_changed c.args.key c.self.inside.sets.entries (c.get_mut.follows.lender c.take.new.self).entries c.self.inside.waiting c.room-before.result c.room-after.result (2 * end_of (part_of c.args.part.now) + 20) c.in-Some.set.now c.take.new.self
    c.self.invariant (sym c.in-Some.ensures.value) (c.get_mut.follows.holds c.take.new.self).0 c.room-before.ensures c.room-after.ensures (omega (arith, grown, c.room-before.ensures, c.room-after.ensures)) (omega (arith, c.self.invariant.counts, all, c.requires.room))

pub returns-clause-other : goal.returns-clause-other
returns-clause-other c = λ other e. ((c.get_mut.follows.holds c.take.new.self).3 (subst IsSome c.in-Some.ensures.value refl)).2 other e ∙ ap (λ (sets : Sets). set_at other sets) c.self.view_is

pub returns-clause-ends : goal.returns-clause-ends
returns-clause-ends c =
    let updates = (c.get_mut.follows.holds c.take.new.self).3 (subst IsSome c.in-Some.ensures.value refl) in
    let old : set_at c.args.key c.args.self.now ≡ Some c.in-Some.set.now = sym (c.in-Some.ensures.value ∙ ap (λ (sets : Sets). set_at c.args.key sets) c.self.view_is) in
    let P = JoinEnds (set_at c.args.key c.args.self.now) (set_at c.args.key (c.get_mut.follows.lender c.take.new.self).entries) (part_of c.args.part.now) c.args.frame in
    elim c.match-taken.branch [
      | in-Some-taken w ↦
          let ends = subst (TakeEnds c.in-Some.set.now c.take.new.self (part_of c.args.part.now) c.args.frame) w.in-Some-taken.is c.in_ok-taken.ensures.ends in
          subst (λ r. IfOk r P) (sym w.result-is) (c.in-Some.set.now, c.take.new.self, old, updates.1, c.in_ok-taken.ensures.began, ends)
      | in-None w ↦
          let ends = subst (TakeEnds c.in-Some.set.now c.take.new.self (part_of c.args.part.now) c.args.frame) w.in-None.is c.in_ok-taken.ensures.ends in
          subst (λ r. IfOk r P) (sym w.result-is) (c.in-Some.set.now, c.take.new.self, old, updates.1, c.in_ok-taken.ensures.began, ends, (c.is_whole-whole.ensures.0 w.if-whole.true).1)
      | in-None-2 w ↦
          let ends = subst (TakeEnds c.in-Some.set.now c.take.new.self (part_of c.args.part.now) c.args.frame) w.in-None-2.is c.in_ok-taken.ensures.ends in
          subst (λ r. IfOk r P) (sym w.result-is) (c.in-Some.set.now, c.take.new.self, old, updates.1, c.in_ok-taken.ensures.began, ends, λ all. not_both c.is_whole-whole.result (c.is_whole-whole.ensures.1 (ends.0, all)) w.if-whole.false)
    ]

pub returns-in_err-taken-clause-wants : goal.returns-in_err-taken-clause-wants
returns-in_err-taken-clause-wants c =
    on_err c.from_residual.result _ (λ s e.
    let found = c.in-Some.ensures.value ∙ ap (λ (sets : Sets). set_at c.args.key sets) c.self.view_is ∙ e in
    subst (λ (t : SetState). (t.spoiled ≡ false) × MayJoin t (part_of c.args.part.now)) (same_set _ s found) c.in_err-taken.ensures.wants)

pub returns-in_err-taken-clause-room : goal.returns-in_err-taken-clause-room
returns-in_err-taken-clause-room c =
    let same = same_sets c.args.key c.self.inside.sets.entries _ c.in-Some.set.now c.take.new.self (sym c.in-Some.ensures.value) (c.get_mut.follows.holds c.take.new.self).0 c.in_err-taken.ensures.err in
    counts_same c.args.key c.args.self.now _ (same ∙ c.self.view_is)

pub returns-clause-room : goal.returns-clause-room
returns-clause-room c =
    let updates = (c.get_mut.follows.holds c.take.new.self).3 (subst IsSome c.in-Some.ensures.value refl) in
    counts_changed c.args.key c.self.inside.sets.entries c.args.self.now _ c.in-Some.set.now c.take.new.self c.self.view_is (sym c.in-Some.ensures.value) updates.1 (c.get_mut.follows.holds c.take.new.self).0
