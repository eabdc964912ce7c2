use Rattle.std.proofs.Common.{◌≡◌, inl, ◌∷◌, [], ◌++◌, Option, refl, sym, ap, ◌∙◌, subst, arith, rules, false, IfOk}
use Rattle.net_udp.specs.Fragments.{MayJoin, content_of, part_of, Arrival, SetState, JoinEnds, PutEnds, Sets, frames_of, room_of_all, set_at}
use Rattle.net_udp.proofs.FragmentsLemmas.Puts.{came, came_apart, comes_at, given, kept_at, not_given}
use Rattle.net_udp.proofs.FragmentsLemmas.Rooms.{on_err, on_err_more, same_set}
use Rattle.net_udp.proofs.fragments.fragments.Fragments.put.Goals as goal

pub begin-requires-clause-room : goal.begin-requires-clause-room
begin-requires-clause-room c =
    let all : room_of_all c.join.new.self ≡ c.self.inside.waiting = ap room_of_all (c.in_ok-join.ensures.none c.in-NoSet.is) ∙ sym (ap room_of_all c.self.view_is) ∙ sym c.self.invariant.counts in
    omega (arith, all)

pub returns-in-NoSet-clause-ends : goal.returns-in-NoSet-clause-ends
returns-in-NoSet-clause-ends c =
    let a : Arrival = record { part = part_of c.args.part.now; time = c.args.time; frame = c.args.frame } in
    let same = c.in_ok-join.ensures.none c.in-NoSet.is in
    let ends = subst (JoinEnds (set_at c.args.key c.args.self.now) (set_at c.args.key c.join.new.self) a.part a.frame) c.in-NoSet.is c.in_ok-join.ensures.ends in
    subst (λ (sets : Sets). IfOk c.begin.result (PutEnds (set_at c.args.key c.args.self.now) (set_at c.args.key c.begin.new.self) (room_of_all sets) a)) same
    (subst (λ (o : Option SetState). IfOk c.begin.result (PutEnds o (set_at c.args.key c.begin.new.self) (room_of_all c.join.new.self) a)) (sym ends.0) c.begin.ensures.ends)

pub returns-in-NoSet-clause-err : goal.returns-in-NoSet-clause-err
returns-in-NoSet-clause-err c = on_err_more c.begin.result _ _ (λ e. inl (e ∙ c.in_ok-join.ensures.none c.in-NoSet.is)) c.begin.ensures.err

pub returns-in-Waits-clause-ends : goal.returns-in-Waits-clause-ends
returns-in-Waits-clause-ends c =
    let a : Arrival = record { part = part_of c.args.part.now; time = c.args.time; frame = c.args.frame } in
    let ends = subst (JoinEnds (set_at c.args.key c.args.self.now) (set_at c.args.key c.join.new.self) a.part a.frame) c.in-Waits.is c.in_ok-join.ensures.ends in (
      comes_at _ _ ends.0 ends.1 a ends.2 ends.3 (came ends.0 ends.1 a ends.4 ends.5),
      λ arrivals whole kept. not_given ends.1 (a ∷ arrivals) whole ends.5.0 (ends.5.2 arrivals a refl refl (kept_at _ ends.0 arrivals ends.2 kept).2) ends.6,
      ap frames_of ends.3 ∙ ends.5.5 ∙ ap (λ (o : Option SetState). frames_of o ++ a.frame ∷ []) (sym ends.2),
    )

pub returns-in_ok-content-in-Whole-clause-ends : goal.returns-in_ok-content-in-Whole-clause-ends
returns-in_ok-content-in-Whole-clause-ends c =
    let a : Arrival = record { part = part_of c.args.part.now; time = c.args.time; frame = c.args.frame } in
    let ends = subst (JoinEnds (set_at c.args.key c.args.self.now) (set_at c.args.key c.join.new.self) a.part a.frame) c.in-Whole.is c.in_ok-join.ensures.ends in (
      c.in_ok-content-in-Whole.ensures.gone,
      λ arrivals kept. given ends.1 (a ∷ arrivals) (content_of c.in_ok-content-in-Whole.content) ends.5.0 (ends.5.2 arrivals a refl refl (kept_at _ ends.0 arrivals ends.2 kept).2) ends.6 (c.in_ok-content-in-Whole.ensures.content ends.1 ends.3),
      c.in_ok-content-in-Whole.ensures.frames ends.1 ends.3 ∙ ends.5.5 ∙ ap (λ (o : Option SetState). frames_of o ++ a.frame ∷ []) (sym ends.2),
    )

pub returns-in-Apart-clause-ends : goal.returns-in-Apart-clause-ends
returns-in-Apart-clause-ends c =
    let a : Arrival = record { part = part_of c.args.part.now; time = c.args.time; frame = c.args.frame } in
    let ends = subst (JoinEnds (set_at c.args.key c.args.self.now) (set_at c.args.key c.join.new.self) a.part a.frame) c.in-Apart.is c.in_ok-join.ensures.ends in (
      comes_at _ _ ends.0 ends.1 a ends.2 ends.3 (came_apart ends.0 ends.1 a c.in-Apart.frames ends.4 ends.5),
      ends.5.2 ∙ ap frames_of (sym ends.2),
      λ arrivals kept. (ends.5.3 arrivals a refl (kept_at _ ends.0 arrivals ends.2 kept).2).0,
      ap frames_of ends.3 ∙ ends.5.4,
    )

pub returns-in_err-content-in-Whole-clause-wants : goal.returns-in_err-content-in-Whole-clause-wants
returns-in_err-content-in-Whole-clause-wants c =
    let a : Arrival = record { part = part_of c.args.part.now; time = c.args.time; frame = c.args.frame } in
    let ends = subst (JoinEnds (set_at c.args.key c.args.self.now) (set_at c.args.key c.join.new.self) a.part a.frame) c.in-Whole.is c.in_ok-join.ensures.ends in
    let all : room_of_all c.args.self.now ≡ c.self.inside.waiting = sym (ap room_of_all c.self.view_is) ∙ sym c.self.invariant.counts in
    on_err c.from_residual-in_err-content-in-Whole.result _ (record {
      some = search rules;
      short = search rules;
      room = omega (arith, all);
      agrees = λ s e.
          let found : ends.0 ≡ s = same_set ends.0 s (sym ends.2 ∙ e) in
          subst (λ (t : SetState). (t.spoiled ≡ false) × MayJoin t a.part) found (ends.5.3, ends.5.4);
    })
