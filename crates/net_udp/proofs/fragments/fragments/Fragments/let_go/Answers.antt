use Rattle.std.proofs.Common.{sym, ap, ◌∙◌, arith}
use Rattle.net_udp.specs.Fragments.{Sets, set_at}
use Rattle.net_udp.proofs.FragmentsLemmas.Rooms.{counted_removed, counts_removed, found_room}
use Rattle.net_udp.proofs.fragments.fragments.Fragments.let_go.Goals as goal

pub overflow_sub-self : goal.overflow_sub-self
overflow_sub-self c = omega (arith, c.room.ensures, c.self.invariant.counts, found_room c.args.key c.self.inside.sets.entries c.in-Some.set (sym c.in-Some.ensures.value))

pub invariant_of-self : goal.invariant_of-self
invariant_of-self c = counted_removed c.args.key c.self.inside.sets.entries c.remove.new.self.entries c.self.inside.waiting c.room.result c.in-Some.set c.self.invariant (sym c.in-Some.ensures.value) c.in-Some.ensures.entries c.room.ensures

pub returns-in-Some-clause-other : goal.returns-in-Some-clause-other
returns-in-Some-clause-other c = λ other e. c.in-Some.ensures.updates.2 other e ∙ ap (λ (sets : Sets). set_at other sets) c.self.view_is

pub returns-in-Some-clause-room : goal.returns-in-Some-clause-room
returns-in-Some-clause-room c = counts_removed c.args.key c.self.inside.sets.entries c.args.self.now c.remove.new.self.entries c.in-Some.set c.self.view_is (sym c.in-Some.ensures.value) c.in-Some.ensures.updates.1 c.in-Some.ensures.entries
