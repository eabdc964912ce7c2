use Rattle.std.proofs.Common.{ap, sym, subst, ◌∙◌, ◌≡◌, ◌<◌, ◌≤◌, option_map, inl, inr, arith}
use Rattle.std.proofs.lemmas.Bool.Decides.{nat_tests}
use Rattle.tftp_ends.specs.Blocks.{IsHeldLast, Takes}
use Rattle.tftp_ends.proofs.BlocksLemmas.Orderly.{takes_within, may_below, whole_below, may_end}
use Rattle.tftp_ends.proofs.blocks.delivered.Delivered.takes.Goals as goal

pub returns-then-number-front : goal.returns-then-number-front
returns-then-number-front g c = (
  λ e. absurd (cc),
  λ takes.
      let window = c.window.ensures in
      let near = takes_within (g.Self.Delivered.block_size c.args.self.now) (g.Self.Delivered.window c.args.self.now) (g.Self.Delivered.held c.args.self.now) c.front.result c.args.number c.args.len c.front.ensures takes in
      let far = c.if-number-front.true in absurd (omega arith),
)

pub returns-then-number-highest : goal.returns-then-number-highest
returns-then-number-highest g c =
    let size = c.block_size-size.ensures in
    let one : 1 ≤ c.args.number = (let some = c.if-number-eq0.false in omega arith) in
    let low = c.if-number-highest.true in (
      λ e.
          let exact : c.args.len ≡ g.Self.Delivered.block_size c.args.self.now = grind (arith, nat_tests) in
          subst (Takes (g.Self.Delivered.block_size c.args.self.now) (g.Self.Delivered.window c.args.self.now) (g.Self.Delivered.held c.args.self.now) c.args.number) (sym exact)
          (may_below (g.Self.Delivered.block_size c.args.self.now) (g.Self.Delivered.window c.args.self.now) (g.Self.Delivered.held c.args.self.now) c.front.result c.highest-highest.result c.args.number c.front.ensures c.highest-highest.ensures.orderly c.highest-highest.ensures.highest one (rw c.window.ensures at c.if-number-front.false) low),
      λ takes.
          let exact = whole_below (g.Self.Delivered.block_size c.args.self.now) (g.Self.Delivered.window c.args.self.now) (g.Self.Delivered.held c.args.self.now) c.highest-highest.result c.args.number c.args.len c.highest-highest.ensures.orderly c.highest-highest.ensures.highest low takes in
          grind (arith, nat_tests),
    )

pub returns-then-number-highest-2 : goal.returns-then-number-highest-2
returns-then-number-highest-2 g c =
    let size = c.block_size-size.ensures in
    let one : 1 ≤ c.args.number = (let some = c.if-number-eq0.false in omega arith) in
    let short : IsHeldLast (g.Self.Delivered.block_size c.args.self.now) (g.Self.Delivered.held c.args.self.now) c.highest-highest.result = (c.in-Some.bytes.now, sym c.block.ensures ∙ ap (option_map (λ b. b.now)) c.in-Some.is, rw c.block_size-size.ensures at c.if-bytes-size.true) in
    let at = c.if-number-highest-2.true in (
      λ e.
          let less : c.args.len < g.Self.Delivered.block_size c.args.self.now = grind (arith, nat_tests) in
          may_end (g.Self.Delivered.block_size c.args.self.now) (g.Self.Delivered.window c.args.self.now) (g.Self.Delivered.held c.args.self.now) c.front.result c.highest-highest.result c.args.number c.args.len c.front.ensures c.highest-highest.ensures.orderly c.highest-highest.ensures.highest one (rw c.window.ensures at c.if-number-front.false) short at less,
      λ takes. elim (takes.before_last c.highest-highest.result short) [
        | inl (before, exact) ↦ absurd (omega arith)
        | inr (equal, less) ↦ let under : c.args.len < g.Self.Delivered.block_size c.args.self.now = omega arith in grind (arith, nat_tests)
      ],
    )

pub returns-else-number-highest-2 : goal.returns-else-number-highest-2
returns-else-number-highest-2 g c =
    let short : IsHeldLast (g.Self.Delivered.block_size c.args.self.now) (g.Self.Delivered.held c.args.self.now) c.highest-highest.result = (c.in-Some.bytes.now, sym c.block.ensures ∙ ap (option_map (λ b. b.now)) c.in-Some.is, rw c.block_size-size.ensures at c.if-bytes-size.true) in
    let high = c.if-number-highest.false in
    let other = c.if-number-highest-2.false in (
      λ e. let equal : c.args.number ≡ c.highest-highest.result = grind (arith, nat_tests) in absurd (other equal),
      λ takes. elim (takes.before_last c.highest-highest.result short) [
        | inl (before, exact) ↦ absurd (omega arith)
        | inr (equal, less) ↦ absurd (other equal)
      ],
    )
