use Rattle.std.proofs.Common.{◌≡◌, ◌∙◌, subst, sym, rules, eq-eqb, length}
use Rattle.std.proofs.lemmas.Bool.Decides.{Decides-eqb}
use Rattle.net_udp.specs.Fragments.{Held, IsComplete}
use Rattle.net_udp.proofs.FragmentsLemmas.Keeping.{complete_from, front_from}
use Rattle.net_udp.proofs.fragments.parts.Parts.are_whole.Goals as goal

pub returns-then-self : goal.returns-then-self
returns-then-self c =
    let seen : Held = record { cells = c.self.inside.cells.items; ended = c.self.inside.ended; protocol = c.self.inside.protocol } in
    let size : c.len.result ≡ length c.self.inside.cells.items = search rules in (
      λ at. subst IsComplete c.self.view_is (complete_from seen c.self.inside.front c.in-Some.field-0 c.self.invariant c.if-self.true ((Decides-eqb c.self.inside.front c.len.result).0 at ∙ size) c.in-Some.is),
      λ all. eq-eqb c.self.inside.front c.len.result (front_from seen c.self.inside.front c.self.invariant (subst IsComplete (sym c.self.view_is) all) ∙ sym size),
    )
