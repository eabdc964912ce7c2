use Rattle.std.proofs.Common.{zero, inl, refl, sym, ◌∙◌}
use Rattle.net_udp.proofs.FramesLemmas.Extensions.{next_header, cut_header, no_stop_in_extension, no_stop_in_fragment, no_stop_in_part, stops_at_part}
use Rattle.net_udp.proofs.frames.extension.skip_extensions.Goals as goal

pub headers-preserved : goal.headers-preserved
headers-preserved c r =
    let next = next_header c.headers.kind c.headers.rest.now c.in-Some.size c.split_at.result.1.now c.in-Some.ensures.0 c.in-Some.ensures.1 c.split_at.ensures.back r in
    ((λ s. next.0 ((c.headers.invariant r).0 s)), λ s. (c.headers.invariant r).1 (next.1 s))

pub returns-then-is_extension_header : goal.returns-then-is_extension_header
returns-then-is_extension_header c r s =
    cut_header c.headers.kind c.headers.rest.now r c.in_default.ensures
    (no_stop_in_extension c.headers.kind c.headers.rest.now r c.if-kind-ne-FRAGMENT.true (sym c.is_extension_header.ensures ∙ c.if-is_extension_header.true))
    ((c.headers.invariant r).0 s)

pub returns-else-is_extension_header : goal.returns-else-is_extension_header
returns-else-is_extension_header c = (c.headers.invariant _).1 (zero, inl (sym c.is_extension_header.ensures ∙ c.if-is_extension_header.false, c.if-kind-ne-FRAGMENT.true, refl))

pub returns-then-rest-lt8 : goal.returns-then-rest-lt8
returns-then-rest-lt8 c r s =
    cut_header c.headers.kind c.headers.rest.now r c.in_default.ensures
    (no_stop_in_fragment c.headers.kind c.headers.rest.now r c.if-kind-ne-FRAGMENT.false c.if-rest-lt8.true)
    ((c.headers.invariant r).0 s)

pub returns-then-not-is_read_part : goal.returns-then-not-is_read_part
returns-then-not-is_read_part c r s =
    cut_header c.headers.kind c.headers.rest.now r c.in_default.ensures
    (no_stop_in_part c.headers.kind c.headers.rest.now r c.if-kind-ne-FRAGMENT.false (sym c.is_read_part.ensures ∙ c.if-not-is_read_part.true))
    ((c.headers.invariant r).0 s)

pub returns : goal.returns
returns c =
    let stops = stops_at_part c.headers.kind c.headers.rest.now c.read_fragment.result c.split_at-2.result.1.now c.if-kind-ne-FRAGMENT.false c.if-rest-lt8.false c.in_default.ensures (sym c.is_read_part.ensures ∙ c.if-not-is_read_part.false) c.read_fragment.ensures c.split_at-2.ensures.back in
    (c.headers.invariant _).1 (zero, stops)
