use Rattle.net_udp.proofs.FramesLemmas.Links.{answer_of}
use Rattle.net_udp.proofs.FramesLemmas.Unread.{unread_here, unread_next}
use Rattle.net_udp.proofs.frames.unread.unread_over.Goals as goal

pub headers-preserved : goal.headers-preserved
headers-preserved c u =
    let next = unread_next c.headers.kind c.headers.rest.now c.in-Some.size c.split_at.result.1.now u c.in-Some.ensures.0 c.in-Some.ensures.1 c.split_at.ensures.back in
    ((λ s. next.0 ((c.headers.invariant u).0 s)), λ s. (c.headers.invariant u).1 (next.1 s))

pub returns : goal.returns
returns c =
    answer_of c.unread_by.result _ _ _ _ (λ none u s. none u ((c.headers.invariant u).0 s)) (λ u s. (c.headers.invariant u).1 s)
    (unread_here c.headers.kind c.headers.rest.now c.unread_by.result c.unread_by.ensures c.in_default.ensures)
