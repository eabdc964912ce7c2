-- When a packet is told to be a copy.
use Rattle.std.proofs.Common.{◌<◌, List, ◌∷◌, ◌++◌, length, refl, sym, ◌∙◌, arith}
use Rattle.std.specs.List.{Any}
use Rattle.std.proofs.lemmas.List.{get_or-take, get_or_at, length-take, length-append}
use Rattle.net_udp.specs.Copies.{Packet, AreOne, IsCopy}

-- what is one of the first of a list is one of the list
pub came_before : (before : List Packet) (p : Packet) → IsCopy before p → Any (AreOne p) before
came_before before p (k, x, l, e, one) =
    let long = length-take 16 before in
    (k, x, omega (arith, l, long), sym (get_or-take 16 before k x (omega (arith, l, long))) ∙ e, one)

pub near_told : (between before : List Packet) (p q : Packet) → AreOne p q → length between < 16 → IsCopy (between ++ q ∷ before) p
near_told between before p q one few =
    let all = between ++ q ∷ before in
    let long = length-take 16 all in
    let both = length-append between (q ∷ before) in
    (length between, q, omega (arith, few, long, both), get_or-take 16 all (length between) q few ∙ get_or_at between q before q (length between) refl, one)
