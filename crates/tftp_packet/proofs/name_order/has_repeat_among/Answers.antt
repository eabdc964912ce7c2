use Rattle.std.proofs.Common.{refl, sym, subst, arith, length-append, length-take, length-drop}
use Rattle.tftp_packet.specs.{HasTwo}
use Rattle.tftp_packet.proofs.NameLists.{two_apart, two_right}
use Rattle.tftp_packet.proofs.name_order.has_repeat_among.Goals as goal

pub returns-then-has_equal : goal.returns-then-has_equal
returns-then-has_equal c = ((λ _. c.loop-left.invariant.1.0 (subst HasTwo c.gather-count.ensures.all c.if-has_equal.ensures)), λ _. refl)

pub loop-left-preserved : goal.loop-left-preserved
loop-left-preserved c =
    let all = c.gather-count.ensures.all in (
      search (arith, length-append, length-take, length-drop),
      (
        (λ two. c.loop-left.invariant.1.0 (subst HasTwo all (two_right _ _ two))),
        λ two. two_apart _ _ c.if-has_equal.ensures.0 c.if-has_equal.ensures.1 (subst HasTwo (sym all) (c.loop-left.invariant.1.1 two)),
      ),
    )
