use Rattle.std.proofs.Common.{◌≡◌, inl, inr, sym, ◌∙◌, arith}
use Rattle.std.proofs.lemmas.Bool.{cases_lt}
use Rattle.net_udp.proofs.FragmentsLemmas.Keeping.{some_of}
use Rattle.net_udp.proofs.fragments.parts.front_after.Goals as goal

pub loop-front-preserved : goal.loop-front-preserved
loop-front-preserved c = (
  omega arith,
  omega arith,
  λ k low high. elim (cases_lt k c.loop-front.front) [
    | inl below ↦ c.loop-front.invariant.2 k low below
    | inr at ↦ let e : k ≡ c.loop-front.front = omega arith in rw e (some_of _ (sym c.is_some.ensures ∙ c.if-is_some.true))
  ],
)
