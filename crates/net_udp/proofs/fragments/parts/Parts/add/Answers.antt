use Rattle.std.proofs.Common.{true, inl, inr, refl, sym, ap, ◌∙◌}
use Rattle.net_udp.specs.Fragments.{Held, part_of}
use Rattle.net_udp.proofs.FragmentsLemmas.Holding.{Added, not_both, stands_more}
use Rattle.net_udp.proofs.FragmentsLemmas.Keeping.{kept_more}
use Rattle.net_udp.proofs.fragments.parts.Parts.add.Goals as goal

pub invariant_of-self-then-not-part : goal.invariant_of-self-then-not-part
invariant_of-self-then-not-part c =
    let found = rw c.deref.ensures.value at c.front_after-self-inside.ensures in
    kept_more c.self.inside.cells.items c.lay.new.cells.items c.args.part.now.place c.args.part.now.content.now c.self.inside.front _ c.self.invariant c.in_ok-lay.ensures.ok c.requires.room
    found.within found.before found.here

pub invariant_of-self-else-not-part : goal.invariant_of-self-else-not-part
invariant_of-self-else-not-part c =
    let found = rw c.deref.ensures.value at c.front_after-self-inside.ensures in
    kept_more c.self.inside.cells.items c.lay.new.cells.items c.args.part.now.place c.args.part.now.content.now c.self.inside.front _ c.self.invariant c.in_ok-lay.ensures.ok c.requires.room
    found.within found.before found.here

pub returns-then-not-part-clause-ok : goal.returns-then-not-part-clause-ok
returns-then-not-part-clause-ok c = λ parts s.
    let cells = ap (λ (h : Held). h.cells) c.self.view_is in
    let added : Added c.args.self.now (part_of c.args.part.now) (record { cells = c.lay.new.cells.items; ended = true; protocol = c.named_with-self-inside.result }) = record {
      laid = rw cells at c.in_ok-lay.ensures.ok;
      kept = λ e. refl;
      set = λ e. refl;
      only = λ e. inr c.if-not-part.true;
      first = c.named_with-self-inside.ensures.first;
      other = λ away. c.named_with-self-inside.ensures.other away ∙ ap (λ (h : Held). h.protocol) c.self.view_is;
    } in
    stands_more c.args.self.now (part_of c.args.part.now) (record { cells = c.lay.new.cells.items; ended = true; protocol = c.named_with-self-inside.result }) c.requires.agrees added parts s

pub returns-else-not-part-clause-ok : goal.returns-else-not-part-clause-ok
returns-else-not-part-clause-ok c = λ parts s.
    let cells = ap (λ (h : Held). h.cells) c.self.view_is in
    let ended = ap (λ (h : Held). h.ended) c.self.view_is in
    let added : Added c.args.self.now (part_of c.args.part.now) (record { cells = c.lay.new.cells.items; ended = c.self.inside.ended; protocol = c.named_with-self-inside.result }) = record {
      laid = rw cells at c.in_ok-lay.ensures.ok;
      kept = λ e. ended ∙ e;
      set = λ e. absurd (not_both c.args.part.now.more c.if-not-part.false e);
      only = λ e. inl (sym ended ∙ e);
      first = c.named_with-self-inside.ensures.first;
      other = λ away. c.named_with-self-inside.ensures.other away ∙ ap (λ (h : Held). h.protocol) c.self.view_is;
    } in
    stands_more c.args.self.now (part_of c.args.part.now) (record { cells = c.lay.new.cells.items; ended = c.self.inside.ended; protocol = c.named_with-self-inside.result }) c.requires.agrees added parts s
