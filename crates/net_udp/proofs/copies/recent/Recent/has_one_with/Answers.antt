use Rattle.std.proofs.Common.{◌↔◌, IsTrue, List, ap, subst, rules, tests}
use Rattle.std.specs.List.{Any}
use Rattle.std.proofs.lemmas.Iterator.{cases_from_any}
use Rattle.std.proofs.lemmas.Iterator.Consumers.{YieldsList-from_deque}
use Rattle.net_udp.specs.Copies.{Packet, AreOne, RecentState, shown}
use Rattle.net_udp.proofs.CopiesLemmas.Holding.{any_shown}
use Rattle.net_udp.proofs.copies.recent.Recent.has_one_with.Goals as goal

pub returns : goal.returns
returns c =
    let packet : Packet = record { interface = c.args.interface; time = c.args.time; bytes = c.args.bytes.now } in
    let hs = c.self.inside.held.items in
    let told = cases_from_any _ _ _ (λ h. AreOne packet (shown h)) (λ h. AreOne packet (shown h) → ⊥) c.any.ensures.ran (YieldsList-from_deque hs c.iter.ensures.rest) (λ x q k. search (rules, tests)) (λ x q k. search (rules, tests)) in
    subst (λ (ps : List Packet). IsTrue c.any.result ↔ Any (AreOne packet) ps) (ap (λ (s : RecentState). s.held) c.self.view_is) (any_shown (AreOne packet) c.any.result hs told)
