use Rattle.net_udp.proofs.FramesLemmas.Links.{answer_of}
use Rattle.net_udp.proofs.FramesLemmas.Unread.{sealed_here, sealed_next}
use Rattle.net_udp.proofs.frames.unread.sealed_behind.Goals as goal

pub tags-preserved : goal.tags-preserved
tags-preserved c u =
    let next = sealed_next c.tags.next c.tags.rest.now c.in-Some.named c.in-Some.behind.now u c.in-Some.ensures.0 c.in-Some.ensures.1 in
    ((λ s. next.0 ((c.tags.invariant u).0 s)), λ s. (c.tags.invariant u).1 (next.1 s))

pub returns : goal.returns
returns c =
    answer_of c.sealed_by.result _ _ _ _ (λ none u s. none u ((c.tags.invariant u).0 s)) (λ u s. (c.tags.invariant u).1 s)
    (sealed_here c.tags.next c.tags.rest.now c.sealed_by.result c.sealed_by.ensures c.in_default.ensures)
