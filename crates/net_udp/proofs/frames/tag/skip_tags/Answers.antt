use Rattle.std.proofs.Common.{◌<◌, ℕ, length, subst, sym, ◌∙◌}
use Rattle.net_udp.proofs.FramesLemmas.Tags.{short_shim, unread_shim, next_tag, no_tag}
use Rattle.net_udp.proofs.frames.tag.skip_tags.Goals as goal

pub returns-then-rest-size : goal.returns-then-rest-size
returns-then-rest-size c last content s =
    short_shim c.tags.next c.tags.rest.now last content (sym c.is_shim.ensures ∙ c.tags-test.true) (subst (λ (n : ℕ). length c.tags.rest.now < n) c.shim_size-size.ensures c.if-rest-size.true) ((c.tags.invariant last content).0 s)

pub returns-in_default : goal.returns-in_default
returns-in_default c last content s =
    unread_shim c.tags.next c.tags.rest.now last content (sym c.is_shim.ensures ∙ c.tags-test.true) (sym c.next_type.ensures ∙ c.in_default.is) ((c.tags.invariant last content).0 s)

pub tags-preserved : goal.tags-preserved
tags-preserved c last content =
    let next = next_tag c.tags.next c.tags.rest.now c.in-Some.named c.shim_size-size.result c.split_at.result.1.now c.shim_size-size.ensures c.split_at.ensures.back (sym c.is_shim.ensures ∙ c.tags-test.true) c.if-rest-size.false
    (sym c.next_type.ensures ∙ c.in-Some.is) last content in
    ((λ s. next.0 ((c.tags.invariant last content).0 s)), λ s. (c.tags.invariant last content).1 (next.1 s))

pub returns : goal.returns
returns c = (c.tags.invariant _ _).1 (no_tag c.tags.next c.tags.rest.now (sym c.is_shim.ensures ∙ c.tags-test.false))
