use Rattle.std.proofs.Common.{◌↔◌, IsTrue, ◌∷◌, subst}
use Rattle.net_udp.specs.Copies.{Packet as Recorded, IsCopy, StandsFor}
use Rattle.net_udp.specs.Frames.{shown}
use Rattle.net_udp.proofs.RecordingLemmas.Liking.{like, recorded_there}
use Rattle.net_udp.proofs.recording.likeness.likeness_of.Goals as goal

pub returns-clause-like : goal.returns-clause-like
returns-clause-like c = λ came stands.
    let there = recorded_there c.args.frame.now.parts (shown c.args.packet.now) _ _ c.interface_of.ensures c.time.ensures in
    like came c.args.frame.now.parts (shown c.args.packet.now) c.in_ok-is_one.is_one c.is_identified.result _ (subst (λ (r : Recorded). IsTrue c.in_ok-is_one.is_one ↔ IsCopy came r) there (c.in_ok-is_one.ensures.copy came stands)) c.is_identified.ensures c.likeness_by.ensures

pub returns-clause-held : goal.returns-clause-held
returns-clause-held c = λ came stands.
    let there = recorded_there c.args.frame.now.parts (shown c.args.packet.now) _ _ c.interface_of.ensures c.time.ensures in
    subst (λ (r : Recorded). StandsFor c.take.new.self (r ∷ came)) there (c.in_ok-is_one.ensures.held came stands)
