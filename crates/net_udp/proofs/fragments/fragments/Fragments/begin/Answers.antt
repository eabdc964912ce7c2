use Rattle.std.proofs.Common.{◌≡◌, ◌+◌, ◌*◌, ◌≤◌, List, [], ◌∷◌, Option, None, refl, sym, ap, ◌∙◌, subst, arith}
use Rattle.net_udp.specs.Fragments.{end_of, content_of, part_of, Arrival, IsSetOf, MayJoin, SetState, TakeEnds, room_of, Comes, Sets, frames_of, room_of_all, set_at}
use Rattle.net_udp.proofs.FragmentsLemmas.Holding.{not_both}
use Rattle.net_udp.proofs.FragmentsLemmas.Puts.{came_first, empty_set, given, not_given, nothing_joins, nothing_kept}
use Rattle.net_udp.proofs.FragmentsLemmas.Rooms.{counted_inserted, counts_inserted}
use Rattle.net_udp.proofs.fragments.fragments.Fragments.begin.Goals as goal

pub returns-then-is_whole-clause-ends : goal.returns-then-is_whole-clause-ends
returns-then-is_whole-clause-ends c =
    let a : Arrival = record { part = part_of c.args.part.now; time = c.args.time; frame = c.args.frame } in
    let s : SetState = nothing_kept c.args.time in
    let t : SetState = c.take.new.self in
    let none = c.in_ok-_apart.ensures.agrees (ap (λ (x : SetState). x.spoiled) c.new-set.ensures) (subst (λ (x : SetState). MayJoin x a.part) (sym c.new-set.ensures) (nothing_joins a.part c.args.time c.requires.some)) in
    let ends : TakeEnds s t a.part a.frame None = subst (λ (x : SetState). TakeEnds x t a.part a.frame None) c.new-set.ensures (subst (TakeEnds c.new-set.result t a.part a.frame) none c.in_ok-_apart.ensures.ends) in
    let is : IsSetOf t (a ∷ []) = ends.2 [] a refl refl (empty_set c.args.time) in (
      c.requires.none,
      λ arrivals e. given t (a ∷ arrivals) (content_of c.in_ok-content.content) ends.0 (subst (λ (l : List Arrival). IsSetOf t (a ∷ l)) (sym e) is) (c.is_whole.ensures.0 c.if-is_whole.true).1 c.in_ok-content.ensures,
      c.into_frames-frames.ensures ∙ ends.5,
    )

pub invariant_of-self-2 : goal.invariant_of-self-2
invariant_of-self-2 c =
    let a : Arrival = record { part = part_of c.args.part.now; time = c.args.time; frame = c.args.frame } in
    let s : SetState = nothing_kept c.args.time in
    let t : SetState = c.take.new.self in
    let none = c.in_ok-_apart.ensures.agrees (ap (λ (x : SetState). x.spoiled) c.new-set.ensures) (subst (λ (x : SetState). MayJoin x a.part) (sym c.new-set.ensures) (nothing_joins a.part c.args.time c.requires.some)) in
    let ends : TakeEnds s t a.part a.frame None = subst (λ (x : SetState). TakeEnds x t a.part a.frame None) c.new-set.ensures (subst (TakeEnds c.new-set.result t a.part a.frame) none c.in_ok-_apart.ensures.ends) in
    let grown : room_of t ≤ room_of s + (2 * end_of a.part + 20) = ends.1 in
    let all : room_of_all c.self.inside.sets.entries ≡ room_of_all c.args.self.now = ap room_of_all c.self.view_is in
    counted_inserted c.args.key c.self.inside.sets.entries c.insert.new.self.entries c.self.inside.waiting c.room-room.result t c.self.invariant c.insert.ensures.was_ordered (ap (λ (sets : Sets). set_at c.args.key sets) c.self.view_is ∙ c.requires.none) c.in_ok-insert.ensures.entries c.room-room.ensures
    (omega (arith, grown, all, c.requires.room, c.room-room.ensures))

pub returns-clause-other : goal.returns-clause-other
returns-clause-other c = λ other e. c.in_ok-insert.ensures.updates.2 other e ∙ ap (λ (sets : Sets). set_at other sets) c.self.view_is

pub returns-clause-ends : goal.returns-clause-ends
returns-clause-ends c =
    let a : Arrival = record { part = part_of c.args.part.now; time = c.args.time; frame = c.args.frame } in
    let s : SetState = nothing_kept c.args.time in
    let t : SetState = c.take.new.self in
    let none = c.in_ok-_apart.ensures.agrees (ap (λ (x : SetState). x.spoiled) c.new-set.ensures) (subst (λ (x : SetState). MayJoin x a.part) (sym c.new-set.ensures) (nothing_joins a.part c.args.time c.requires.some)) in
    let ends : TakeEnds s t a.part a.frame None = subst (λ (x : SetState). TakeEnds x t a.part a.frame None) c.new-set.ensures (subst (TakeEnds c.new-set.result t a.part a.frame) none c.in_ok-_apart.ensures.ends) in
    let began : t.began ≡ a.time = c.in_ok-_apart.ensures.began ∙ ap (λ (x : SetState). x.began) c.new-set.ensures in (
      subst (λ (o : Option SetState). Comes None o a) (sym c.in_ok-insert.ensures.updates.1) (came_first s t a began (empty_set c.args.time) ends),
      λ arrivals whole e. not_given t (a ∷ arrivals) whole ends.0 (subst (λ (l : List Arrival). IsSetOf t (a ∷ l)) (sym e) (ends.2 [] a refl refl (empty_set c.args.time))) (λ all. not_both c.is_whole.result (c.is_whole.ensures.1 (ends.0, all)) c.if-is_whole.false),
      ap frames_of c.in_ok-insert.ensures.updates.1 ∙ ends.5,
    )

pub returns-clause-room : goal.returns-clause-room
returns-clause-room c =
    counts_inserted c.args.key c.self.inside.sets.entries c.args.self.now c.insert.new.self.entries c.take.new.self c.self.view_is c.insert.ensures.was_ordered (ap (λ (sets : Sets). set_at c.args.key sets) c.self.view_is ∙ c.requires.none) c.in_ok-insert.ensures.updates.1 c.in_ok-insert.ensures.entries
